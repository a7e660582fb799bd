-- Room for what is written of attributes that read, and the bytes that they are written as. Assumes nothing.
use Rattle.std.specs.Prelude.{ℕ, ◌+◌, ◌≤◌, List, [], ◌++◌, length, drop, Ok, Err}
use Rattle.std.specs.List.{AllByRecursion}
use Rattle.model.specs.Numbers.{Bytes}
use Rattle.model.specs.Attributes.{encode, head}
use Rattle.model.specs.Book.{Answer, accept, refuse}
use Rattle.model.specs.Faults.{Read}
use Rattle.filter.specs.Summaries.{Summary}
use Rattle.filter.specs.Nests.{written_row}

-- an output with a form written at its front
abbrev pub at_front : (output form : Bytes) → Bytes
at_front output f = f ++ drop (length f) output

-- the length field of an attribute can tell its length
abbrev pub Short : Summary → Type 0
Short s = length s.written.payload ≤ 65531

-- an attribute that reads, and goes into so many bytes
abbrev pub RoomFor : Read Summary → (size : ℕ) → Type 0
RoomFor (Ok s) n = Short s × (length (encode s.written) ≤ n)
RoomFor (Err e) n = ⊥

abbrev pub form_of : Read Summary → Bytes
form_of (Ok s) = encode s.written
form_of (Err e) = []

-- the payload that a book writes of an option
abbrev pub payload_of : Answer → Bytes
payload_of (accept w x) = x
payload_of (refuse n need) = []

-- a row of them
abbrev pub RoomForRow : Read (List Summary) → (size : ℕ) → Type 0
RoomForRow (Ok l) n = AllByRecursion Short l × (length (written_row l) ≤ n)
RoomForRow (Err e) n = ⊥

abbrev pub row_form : Read (List Summary) → Bytes
row_form (Ok l) = written_row l
row_form (Err e) = []

-- a row, with a head before it
abbrev pub RoomAround : Read (List Summary) → (size : ℕ) → Type 0
RoomAround (Ok l) n = (length (written_row l) ≤ 65531) × (4 + length (written_row l) ≤ n)
RoomAround (Err e) n = ⊥

abbrev pub form_around : (word : ℕ) → Read (List Summary) → Bytes
form_around w r = head (4 + length (row_form r)) w ++ row_form r
