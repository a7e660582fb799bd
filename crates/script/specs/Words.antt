-- The words of a line. Assumes nothing.
use Rattle.std.specs.Prelude.{ℕ, List, length, take, drop}
use Rattle.std.specs.List.{position_or_len}
use Rattle.hexadecimal.specs.PlainText.{blank, from_start, until_end}

-- a text without the blanks before and behind it
abbrev pub trimmed : List ℕ → List ℕ
trimmed text = until_end (from_start text)

-- a text up to its first blank
abbrev pub first_word : List ℕ → List ℕ
first_word text = take (position_or_len blank text) text

-- what stands behind the first word
abbrev pub behind_word : List ℕ → List ℕ
behind_word text = trimmed (drop (length (first_word text)) text)
