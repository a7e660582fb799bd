-- The words that begin a line. Assumes nothing.
use Rattle.std.specs.Prelude.{ℕ, cond, List, Some, None, Option, codes}
use Rattle.std.specs.Str.{bytes_eq}
use Rattle.script.specs.declared.keyword.Keyword.{Keyword}
use Rattle.script.specs.declared.keyword.Keyword.TheVariants.{New, Put, Open, Close, Strike, With, Read, Bytes}

-- the keyword that a word is
abbrev pub keyword_of : List ℕ → Option Keyword
keyword_of w =
    cond (bytes_eq w (codes "new")) (Some New)
    (cond (bytes_eq w (codes "put")) (Some Put)
    (cond (bytes_eq w (codes "open")) (Some Open)
    (cond (bytes_eq w (codes "close")) (Some Close)
    (cond (bytes_eq w (codes "strike")) (Some Strike)
    (cond (bytes_eq w (codes "with")) (Some With)
    (cond (bytes_eq w (codes "read")) (Some Read) (cond (bytes_eq w (codes "bytes")) (Some Bytes) None)))))))
