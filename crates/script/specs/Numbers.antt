-- Numbers in a script. Assumes nothing.
use Rattle.std.specs.Prelude.{ℕ, ◌+◌, ◌*◌, cond, ◌&&◌, List, [], ◌∷◌, Some, None, Option, ◌==◌, nat_le, nat_lt}
use Rattle.hexadecimal.specs.Hex.{value_of}

-- a number with one more digit of a base behind it, of at most 24 bits
abbrev pub with_digit : (base number : ℕ) → Option ℕ → Option ℕ
with_digit base n None = None
with_digit base n (Some d) = cond (nat_lt d base && nat_le (base * n + d) 16777215) (Some (base * n + d)) None

-- a number with one more character behind it
abbrev pub added : (base number character : ℕ) → Option ℕ
added base n c = with_digit base n (value_of c)

-- a number, if there is one, with more characters behind it
abbrev pub onward : (base : ℕ) → Option ℕ → List ℕ → Option ℕ
onward base None cs = None
onward base (Some n) [] = Some n
onward base (Some n) (c ∷ cs) = onward base (added base n c) cs

-- a number of one digit or more
abbrev pub digits : (base : ℕ) → List ℕ → Option ℕ
digits base [] = None
digits base (c ∷ cs) = onward base (Some 0) (c ∷ cs)

-- the number that a text is: hexadecimal after "0x", else decimal
abbrev pub number_of : List ℕ → Option ℕ
number_of [] = None
number_of (a ∷ []) = digits 10 (a ∷ [])
number_of (a ∷ (b ∷ cs)) = cond (a == 48 && b == 120) (digits 16 cs) (digits 10 (a ∷ (b ∷ cs)))

-- a number below 65,536
abbrev pub short : Option ℕ → Option ℕ
short None = None
short (Some n) = cond (nat_lt n 65536) (Some n) None

abbrev pub short_of : List ℕ → Option ℕ
short_of text = short (number_of text)
