-- UTF-8 by RFC 3629, section 4, as a grammar and as a test that takes the bytes one after another. Assumes nothing.
use Rattle.std.specs.Prelude.{◌≡◌, ℕ, zero, suc, ◌≤◌, Bool, true, false, cond, ◌&&◌, T, [], ◌∷◌, ◌++◌, IsUtf8, ◌==◌, nat_le, nat_lt}
use Rattle.model.specs.Numbers.{Bytes}

-- a character's length by its first byte, 0 where none begins so: the rule of the table of 256
abbrev pub first_length : ℕ → ℕ
first_length b = cond (nat_lt b 0x80) 1 (cond (nat_lt b 0xC2) 0 (cond (nat_lt b 0xE0) 2 (cond (nat_lt b 0xF0) 3 (cond (nat_lt b 0xF5) 4 0))))

-- the second byte's range, which four first bytes narrow
abbrev pub low : ℕ → ℕ
low a = cond (a == 0xE0) 0xA0 (cond (a == 0xF0) 0x90 0x80)

abbrev pub high : ℕ → ℕ
high a = cond (a == 0xED) 0x9F (cond (a == 0xF4) 0x8F 0xBF)

abbrev pub In : ℕ → ℕ → ℕ → Type 0
In lo hi b = (lo ≤ b) × (b ≤ hi)

-- the grammar
pub data Character : Bytes → Type 0 where
  one : (a : ℕ) → first_length a ≡ 1 → Character (a ∷ [])
  two : (a b : ℕ) → first_length a ≡ 2 → In (low a) (high a) b → Character (a ∷ b ∷ [])
  three : (a b c : ℕ) → first_length a ≡ 3 → In (low a) (high a) b → In 0x80 0xBF c → Character (a ∷ b ∷ c ∷ [])
  four : (a b c d : ℕ) → first_length a ≡ 4 → In (low a) (high a) b → In 0x80 0xBF c → In 0x80 0xBF d → Character (a ∷ b ∷ c ∷ d ∷ [])

pub data Text : Bytes → Type 0 where
  empty : Text []
  more : (c r bs : Bytes) → Character c → Text r → bs ≡ c ++ r → Text bs

-- the test: `left` bytes of a character are still to come, the next of them between lo and hi
abbrev pub test : ℕ → ℕ → ℕ → Bytes → Bool
test zero lo hi [] = true
test (suc left) lo hi [] = false
test zero lo hi (b ∷ bs) = elim (first_length b) [ zero ↦ false | suc left ↦ test left (low b) (high b) bs ]
test (suc left) lo hi (b ∷ bs) = (nat_le lo b && nat_le b hi) && test left 0x80 0xBF bs

abbrev pub is_text : Bytes → Bool
is_text bs = test 0 0 0 bs

abbrev pub TestIsGrammar : Type 0
TestIsGrammar = (bs : Bytes) → (T (is_text bs) → Text bs) × (Text bs → T (is_text bs))

-- the grammar, and so the test, is the standard library's UTF-8: encodings of scalar values, one after another
abbrev pub GrammarIsUtf8 : Type 0
GrammarIsUtf8 = (bs : Bytes) → (Text bs → IsUtf8 bs) × (IsUtf8 bs → Text bs) × (T (is_text bs) → IsUtf8 bs) × (IsUtf8 bs → T (is_text bs))

-- a text loses one last zero if it has one
abbrev pub stripped : Bytes → Bytes
stripped [] = []
stripped (b ∷ []) = cond (b == 0) [] (b ∷ [])
stripped (b ∷ c ∷ bs) = b ∷ stripped (c ∷ bs)
