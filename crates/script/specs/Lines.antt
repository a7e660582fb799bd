-- The lines of a script: which call each tells. Assumes nothing.
use Rattle.std.specs.Prelude.{◌≡◌, ℕ, cond, ◌&&◌, List, [], ◌∷◌, length, Some, None, Option, Ok, Err, Result, vec_items, ◌==◌}
use Rattle.hexadecimal.specs.Hex.{decode}
use Rattle.model.specs.Page as model
use Rattle.script.specs.declared.keyword.Keyword.{Keyword}
use Rattle.script.specs.declared.keyword.Keyword.TheVariants as key
use Rattle.script.specs.declared.line.Told.{Told}
use Rattle.script.specs.declared.line.Told.TheVariants as told
use Rattle.script.specs.declared.line.Line.{Line}
use Rattle.script.specs.declared.line.Line.TheVariants as line
use Rattle.script.specs.declared.wrong.Wrong.{Wrong}
use Rattle.script.specs.declared.wrong.Wrong.TheVariants as wrong
use Rattle.script.specs.Wrongs.{behind_with}
use Rattle.script.specs.Words.{trimmed, first_word, behind_word}
use Rattle.script.specs.Numbers.{number_of, short_of}
use Rattle.script.specs.Keywords.{keyword_of}

-- what a line says: a page is made; a call is made with the page's memory, or with other memory; the page is read; its bytes are told
pub data Said : Type 0 where
  made : (size : ℕ) → Said
  called : model.Call → Said
  lent : (size : ℕ) → model.Call → Said
  read : Said
  bytes : Said
  nothing : Said

-- the call of the code's value
abbrev pub asked : Told → model.Call
asked (told.Put w p) = model.put w (vec_items p)
asked (told.Open t) = model.open_nest t
asked told.Close = model.close
asked told.Strike = model.strike

-- what the code's line says
abbrev pub said : Line → Said
said (line.New n) = made n
said (line.Call t) = called (asked t)
said (line.With n t) = lent n (asked t)
said line.Read = read
said line.Bytes = bytes
said line.Nothing = nothing

-- a word that stands alone
abbrev pub alone : {A : Type 0} → List ℕ → A → Result A Wrong
alone [] a = Ok a
alone (c ∷ cs) a = Err wrong.Alone

-- a payload: "-" for none, else hexadecimal
abbrev pub payload_of : List ℕ → Option (List ℕ)
payload_of [] = None
payload_of (c ∷ cs) = cond (c == 45 && length cs == 0) (Some []) (decode (c ∷ cs))

abbrev pub put_of : Option ℕ → Option (List ℕ) → Result model.Call Wrong
put_of None p = Err wrong.Put
put_of (Some w) None = Err wrong.Put
put_of (Some w) (Some p) = Ok (model.put w p)

abbrev pub open_of : Option ℕ → Result model.Call Wrong
open_of None = Err wrong.Open
open_of (Some t) = Ok (model.open_nest t)

-- what stands behind "put"
abbrev pub put_told : List ℕ → Result model.Call Wrong
put_told text = put_of (short_of (first_word text)) (payload_of (behind_word text))

-- the call of a keyword, and what stands behind it
abbrev pub call_by : Option Keyword → List ℕ → Result model.Call Wrong
call_by (Some key.Put) more = put_told more
call_by (Some key.Open) more = open_of (short_of more)
call_by (Some key.Close) more = alone more model.close
call_by (Some key.Strike) more = alone more model.strike
call_by (Some key.New) more = Err wrong.Word
call_by (Some key.With) more = Err wrong.Word
call_by (Some key.Read) more = Err wrong.Word
call_by (Some key.Bytes) more = Err wrong.Word
call_by None more = Err wrong.Word

-- the call that a text tells
abbrev pub call_of : List ℕ → Result model.Call Wrong
call_of text = call_by (keyword_of (first_word text)) (behind_word text)

abbrev pub new_of : Option ℕ → Result Said Wrong
new_of None = Err wrong.New
new_of (Some n) = Ok (made n)

abbrev pub lent_of : Option ℕ → Result model.Call Wrong → Result Said Wrong
lent_of None c = Err wrong.With
lent_of (Some n) (Ok c) = Ok (lent n c)
lent_of (Some n) (Err e) = Err (behind_with e)

abbrev pub called_of : Result model.Call Wrong → Result Said Wrong
called_of (Ok c) = Ok (called c)
called_of (Err e) = Err e

-- the line of a keyword, what stands behind it, and the call that the whole line tells
abbrev pub line_by : Option Keyword → List ℕ → Result model.Call Wrong → Result Said Wrong
line_by (Some key.New) more c = new_of (number_of more)
line_by (Some key.With) more c = lent_of (number_of (first_word more)) (call_of (behind_word more))
line_by (Some key.Read) more c = alone more read
line_by (Some key.Bytes) more c = alone more bytes
line_by (Some key.Put) more c = called_of c
line_by (Some key.Open) more c = called_of c
line_by (Some key.Close) more c = called_of c
line_by (Some key.Strike) more c = called_of c
line_by None more c = called_of c

-- a line that is not blank: a remark, or a line of its first word
abbrev pub line_from : List ℕ → Result Said Wrong
line_from [] = Ok nothing
line_from (c ∷ cs) =
    cond (c == 35) (Ok nothing) (line_by (keyword_of (first_word (c ∷ cs))) (behind_word (c ∷ cs)) (call_of (c ∷ cs)))

-- the line that a text is
abbrev pub line_of : List ℕ → Result Said Wrong
line_of text = line_from (trimmed text)

-- the refusal is the one that is meant, or there was no memory
abbrev pub Refuses : {A : Type 0} → Result A Wrong → Wrong → Type 0
Refuses r wrong.NoMemory = Unit {0}
Refuses r wrong.Word = r ≡ Err wrong.Word
Refuses r wrong.New = r ≡ Err wrong.New
Refuses r wrong.Put = r ≡ Err wrong.Put
Refuses r wrong.Open = r ≡ Err wrong.Open
Refuses r wrong.With = r ≡ Err wrong.With
Refuses r wrong.Alone = r ≡ Err wrong.Alone

-- what the code answers for what stands behind "put", for a call, and for a line
abbrev pub Puts : List ℕ → Result Told Wrong → Type 0
Puts text (Ok t) = put_told text ≡ Ok (asked t)
Puts text (Err e) = Refuses (put_told text) e

abbrev pub Asks : List ℕ → Result Told Wrong → Type 0
Asks text (Ok t) = call_of text ≡ Ok (asked t)
Asks text (Err e) = Refuses (call_of text) e

abbrev pub Tells : List ℕ → Result Line Wrong → Type 0
Tells text (Ok l) = line_of text ≡ Ok (said l)
Tells text (Err e) = Refuses (line_of text) e
