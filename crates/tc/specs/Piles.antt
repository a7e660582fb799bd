-- Books for the tests: one over another, by the kind text, and one that refuses every option. Assumes nothing.
use Rattle.std.specs.Prelude.{cond}
use Rattle.std.specs.Str.{bytes_eq}
use Rattle.model.specs.Numbers.{Bytes}
use Rattle.model.specs.Book.{Meaning, refuse}

-- options of one kind are judged by the first book, and all others by the second
abbrev pub piled : (kind : Bytes) → Meaning → Meaning → Meaning
piled kind top below k w x = cond (bytes_eq k kind) (top k w x) (below k w x)

abbrev pub closed : Meaning
closed k w x = refuse 7 0
