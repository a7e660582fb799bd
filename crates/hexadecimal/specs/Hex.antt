-- Hexadecimal: digits, texts and the bytes that they mean.
use Rattle.std.specs.Prelude.{ℕ, ◌+◌, ◌-◌, ◌*◌, ◌/◌, ◌%◌, cond, ◌&&◌, List, [], ◌∷◌, ◌++◌, Some, None, Option, nat_le, nat_lt}

-- the digit of a number below 16, in lower case: '0' is 48, 'a' is 97
abbrev pub digit : ℕ → ℕ
digit n = cond (nat_lt n 10) (48 + n) (97 + (n - 10))

-- what a character stands for: 0 to 9, a to f, A to F
abbrev pub value_of : ℕ → Option ℕ
value_of c =
    cond (nat_le 48 c && nat_le c 57) (Some (c - 48))
    (cond (nat_le 97 c && nat_le c 102) (Some (c - 97 + 10)) (cond (nat_le 65 c && nat_le c 70) (Some (c - 65 + 10)) None))

-- the byte of two values
abbrev pub joined : Option ℕ → Option ℕ → Option ℕ
joined None b = None
joined (Some a) None = None
joined (Some a) (Some b) = Some (16 * a + b)

-- the byte of two digits
abbrev pub byte_of : ℕ → ℕ → Option ℕ
byte_of high low = joined (value_of high) (value_of low)

-- a byte in front of what follows it
abbrev pub onto : Option ℕ → Option (List ℕ) → Option (List ℕ)
onto None r = None
onto (Some b) None = None
onto (Some b) (Some bs) = Some (b ∷ bs)

-- the bytes of a text; none where a character is no digit, or the number of digits is odd
abbrev pub decode : List ℕ → Option (List ℕ)
decode [] = Some []
decode (c ∷ []) = None
decode (c ∷ (d ∷ cs)) = onto (byte_of c d) (decode cs)

-- the text of bytes, two digits each
abbrev pub encode : List ℕ → List ℕ
encode [] = []
encode (b ∷ bs) = digit (b / 16) ∷ (digit (b % 16) ∷ encode bs)

-- bytes in front of others, where there are others
abbrev pub behind : List ℕ → Option (List ℕ) → Option (List ℕ)
behind front None = None
behind front (Some rest) = Some (front ++ rest)
