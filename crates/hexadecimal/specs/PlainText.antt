-- Text for people: what of it counts.
use Rattle.std.specs.Prelude.{ℕ, Bool, true, false, cond, not, ◌&&◌, ◌||◌, List, [], ◌∷◌, reverse, ◌==◌}

-- a space, a tab, a carriage return or a line end
abbrev pub blank : ℕ → Bool
blank c = c == 32 || (c == 9 || (c == 13 || c == 10))

-- whether a comment goes on behind a character
abbrev pub goes_on : Bool → ℕ → Bool
goes_on inside c = cond (c == 10) false (cond (c == 35) true inside)

-- whether a character counts: it is none of a comment's, and no blank
abbrev pub counts : Bool → ℕ → Bool
counts inside c = not (goes_on inside c) && not (blank c)

-- what counts of a text, which begins inside a comment or not
abbrev pub kept : Bool → List ℕ → List ℕ
kept inside [] = []
kept inside (c ∷ cs) = cond (counts inside c) (c ∷ kept (goes_on inside c) cs) (kept (goes_on inside c) cs)

-- what counts of a text
abbrev pub without_remarks : List ℕ → List ℕ
without_remarks text = kept false text

-- a text from its first character on that is no blank
abbrev pub from_start : List ℕ → List ℕ
from_start [] = []
from_start (c ∷ cs) = cond (blank c) (from_start cs) (c ∷ cs)

-- a text up to its last character that is no blank
abbrev pub until_end : List ℕ → List ℕ
until_end text = reverse (from_start (reverse text))
