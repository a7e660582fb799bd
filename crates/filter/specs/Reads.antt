-- What the parts of a filter read as in summary, from what they hold; and what reading a whole filter answers. Assumes nothing.
use Rattle.std.specs.Prelude.{ℕ, ◌+◌, cond, length, drop, Ok, Err, Result, nat_lt}
use Rattle.model.specs.Numbers.{Bytes}
use Rattle.model.specs.Faults.{fault, numbers, Read, ◌>>=◌}
use Rattle.model.specs.Reading.{Reading, read_action, read_filter}
use Rattle.model.specs.Counts as counting
use Rattle.model.specs.Counts.{counts}
use Rattle.model.specs.Page.{only_fault}
use Rattle.model.specs.Writing.{written}
use Rattle.model.specs.declared.fault.Fault.{Fault}
use Rattle.model.specs.Book.{Meaning}
use Rattle.filter.specs.declared.reading.Counts.{Counts}
use Rattle.filter.specs.declared.tally.Tally.{Tally}
use Rattle.filter.specs.Summaries.{Summary}
use Rattle.tc_filter.specs.Leaves.{Inside}
use Rattle.filter.specs.Nests.{read_in_attribute, read_in_option}

abbrev pub attribute_inside : Meaning → (kind_text : Bytes) → Read Inside → Read Summary
attribute_inside m k r = r >>= read_in_attribute m k

abbrev pub option_inside : Meaning → Read Inside → Read Summary
option_inside m r = r >>= read_in_option m

-- the numbers of a reading: its counts, and how many bytes its written form has
abbrev pub tally_of_reading : Reading → Tally
tally_of_reading r = record { items = length r; actions = (counts r).of_actions; action_options = (counts r).of_action_options; length = length (written r) }

abbrev pub filter_tally : Meaning → Bytes → Read Tally
filter_tally m bs = read_filter m bs >>= λ r. Ok (tally_of_reading r)

-- the counts of a reading, and what reading answered
abbrev pub read_counts : Meaning → Bytes → Read counting.Counts
read_counts m bs = read_filter m bs >>= λ r. Ok (counts r)

abbrev pub counts_heard : Result Counts Fault → Read counting.Counts
counts_heard (Ok c) = Ok (record { of_options = c.options; of_actions = c.actions; of_action_options = c.action_options })
counts_heard (Err f) = Err (numbers f)

-- the action whose head stands at a place of some bytes, and which ends with them
abbrev pub action_reads_at : Meaning → Bytes → (place : ℕ) → Read (Unit {0})
action_reads_at m bs p =
    cond (nat_lt 65531 (length bs)) (Err (fault 1 0 1)) (cond (nat_lt (length bs) (p + 4)) (Err (fault 6 p 2)) (only_fault (read_action m p 0 (drop (p + 4) bs))))
