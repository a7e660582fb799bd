-- The shipped book: by kind text and type, what an action option must be and how it is written. Assumes nothing.
use Rattle.std.specs.Prelude.{ℕ, cond, List, [], ◌∷◌, length, take, codes, ◌==◌, nat_lt, slice_index_or}
use Rattle.std.specs.Str.{bytes_eq}
use Rattle.model.specs.Numbers.{Bytes}
use Rattle.model.specs.Attributes.{type_of}
use Rattle.model.specs.Book.{Answer, accept, refuse, Meaning, BookLaws, plain}

-- the forms of a typed option: exactly n bytes; a record of n bytes; a flag; or a default attribute
pub data Form : Type 0 where
  exact : ℕ → Form
  at_least : ℕ → Form
  flag : Form
  default : Form

abbrev pub truth : Bytes → Bytes
truth [] = []
truth (b ∷ bs) = cond (b == 0) 0 1 ∷ []

abbrev pub judge : Form → ℕ → Bytes → Answer
judge (exact n) w x = cond (length x == n) (accept (type_of w) x) (refuse 12 n)
judge (at_least n) w x = cond (nat_lt (length x) n) (refuse 13 n) (accept (type_of w) (take n x))
judge flag w x = cond (length x == 1) (accept (type_of w) (truth x)) (refuse 12 1)
judge default w x = accept w x

-- by type from 0 on; every further type is a default
abbrev pub mirred_forms : List Form
mirred_forms = default ∷ at_least 32 ∷ at_least 28 ∷ []

abbrev pub nat_forms : List Form
nat_forms = default ∷ at_least 36 ∷ at_least 32 ∷ []

abbrev pub tunnel_key_forms : List Form
tunnel_key_forms = default ∷ at_least 32 ∷ at_least 24 ∷ exact 4 ∷ exact 4 ∷ exact 16 ∷ exact 16 ∷ exact 4 ∷ default ∷ exact 2 ∷ flag ∷ default ∷ exact 1 ∷ exact 1 ∷ []

abbrev pub forms : Bytes → List Form
forms k = cond (bytes_eq k (codes "mirred")) mirred_forms (cond (bytes_eq k (codes "nat")) nat_forms (cond (bytes_eq k (codes "tunnel_key")) tunnel_key_forms []))

abbrev pub shipped : Meaning
shipped k w x = judge (slice_index_or (forms k) (type_of w) default) w x

abbrev pub BooksLawful : Type 0
BooksLawful = BookLaws plain × BookLaws shipped
