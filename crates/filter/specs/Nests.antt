-- An attribute with a row of attributes inside, and how what an option or attribute holds is read with a book. Assumes nothing.
use Rattle.std.specs.Prelude.{ℕ, ◌+◌, List, map, Ok}
use Rattle.model.specs.Numbers.{Bytes}
use Rattle.model.specs.Attributes.{attribute, encode_all}
use Rattle.model.specs.Faults.{Read, ◌>>=◌}
use Rattle.model.specs.Walk.{walk}
use Rattle.model.specs.Book.{Meaning}
use Rattle.model.specs.Reading.{each}
use Rattle.filter.specs.declared.tally.Tally.{Tally}
use Rattle.filter.specs.Summaries.{Summary, Reader, total, of_action_option, action_option_summary, action_summary}
use Rattle.tc_filter.specs.Leaves.{Inside, lone, row_at}

-- which of a row's numbers count
abbrev pub none : Tally → ℕ
none t = 0

abbrev pub items_of : Tally → ℕ
items_of t = t.items

abbrev pub options_of : Tally → ℕ
options_of t = t.action_options

abbrev pub written_row : List Summary → Bytes
written_row l = encode_all (map (λ (s : Summary). s.written) l)

-- the attribute around a row, under a word
abbrev pub around : (word : ℕ) → (actions action_options : Tally → ℕ) → List Summary → Summary
around w α β l = record { written = attribute w (written_row l); actions = α (total l); action_options = β (total l) }

abbrev pub read_inside : (layer : ℕ) → Reader → (word : ℕ) → (actions action_options : Tally → ℕ) → Inside → Read Summary
read_inside layer f w α β (lone a) = Ok (of_action_option a)
read_inside layer f w α β (row_at p x) = each layer f (walk (p + 4) x) >>= λ l. Ok (around w α β l)

-- an action's attribute, and a filter's option
abbrev pub read_in_attribute : Meaning → (kind_text : Bytes) → Inside → Read Summary
read_in_attribute m k = read_inside 4 (action_option_summary m k) 0x8002 none items_of

abbrev pub read_in_option : Meaning → Inside → Read Summary
read_in_option m = read_inside 2 (action_summary m) 7 items_of options_of
