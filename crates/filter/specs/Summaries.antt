-- What reading an attribute gives: the attribute that is written for it, and how many actions and action options are inside. Assumes nothing.
use Rattle.std.specs.Prelude.{ℕ, List, [], ◌∷◌, length, Ok}
use Rattle.model.specs.Numbers.{Bytes}
use Rattle.model.specs.Attributes.{Attribute, encode}
use Rattle.model.specs.Faults.{Read, ◌>>=◌}
use Rattle.model.specs.Walk.{Walked}
use Rattle.model.specs.Book.{Meaning}
use Rattle.model.specs.Counts.{sum_of, options_in, actions_of}
use Rattle.model.specs.Reading.{Action, ActionAttribute, FilterOption, each, as_read, read_attribute, read_action, read_option}
use Rattle.model.specs.Writing.{write_attribute, write_action, write_option}
use Rattle.filter.specs.declared.tally.Tally.{Tally}
use Rattle.filter.specs.Tallies.{nothing, joined}

pub record Summary : Type 0 where
  pub written : Attribute
  pub actions : ℕ
  pub action_options : ℕ

-- an attribute that was read at a place, with a word and a payload
abbrev pub Reader : Type 0
Reader = ℕ → ℕ → Bytes → Read Summary

-- ── in numbers ──
abbrev pub one : Summary → Tally
one s = record { items = 1; actions = s.actions; action_options = s.action_options; length = length (encode s.written) }

abbrev pub total : List Summary → Tally
total [] = nothing
total (s ∷ l) = joined (one s) (total l)

abbrev pub tally_of : Read Summary → Read Tally
tally_of r = r >>= λ s. Ok (one s)

-- the rest of a row, behind what was found so far
abbrev pub tally_behind : Tally → (layer : ℕ) → Reader → Walked → Read Tally
tally_behind t layer f w = each layer f w >>= λ l. Ok (joined t (total l))

abbrev pub tally_all : (layer : ℕ) → Reader → Walked → Read Tally
tally_all layer f w = each layer f w >>= λ l. Ok (total l)

-- ── the four layers ──
abbrev pub of_attribute : ActionAttribute → Summary
of_attribute a = record { written = write_attribute a; actions = 0; action_options = options_in a }

abbrev pub of_action : Action → Summary
of_action a = record { written = write_action a; actions = 0; action_options = sum_of options_in a.attributes }

abbrev pub of_option : FilterOption → Summary
of_option o = record { written = write_option o; actions = length (actions_of o); action_options = sum_of (λ a. sum_of options_in a.attributes) (actions_of o) }

abbrev pub of_action_option : Attribute → Summary
of_action_option a = record { written = a; actions = 0; action_options = 0 }

module _ (m : Meaning) where
  abbrev pub action_option_summary : (kind_text : Bytes) → Reader
  action_option_summary k p w x = as_read p (m k w x) >>= λ a. Ok (of_action_option a)

  abbrev pub attribute_summary : (kind_text : Bytes) → Reader
  attribute_summary k p w x = read_attribute m k p w x >>= λ a. Ok (of_attribute a)

  abbrev pub action_summary : Reader
  action_summary p w x = read_action m p w x >>= λ a. Ok (of_action a)

  abbrev pub option_summary : Reader
  option_summary p w x = read_option m p w x >>= λ o. Ok (of_option o)
