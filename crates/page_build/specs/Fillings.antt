-- The turns that put a row of attributes on a page: each attribute is put, and each nest opened, filled and closed. Assumes nothing.
use Rattle.std.specs.Prelude.{ℕ, ◌+◌, cond, List, [], ◌∷◌, ◌++◌, ◌==◌}
use Rattle.model.specs.Numbers.{Bytes}
use Rattle.model.specs.Attributes.{type_of}
use Rattle.model.specs.Walk.{Walked, done, bad, item, walk}
use Rattle.model.specs.Page.{put, open_nest, close}
use Rattle.model.specs.Runs.{Turn, with_own_memory}

-- for each attribute by its place, word and payload
abbrev pub TurnsAt : Type 0
TurnsAt = ℕ → ℕ → Bytes → List Turn

abbrev pub row_turns : TurnsAt → Walked → List Turn
row_turns f done = []
row_turns f (bad c p) = []
row_turns f (item p w x r) = f p w x ++ row_turns f r

abbrev pub nest_turns : (type : ℕ) → List Turn → List Turn
nest_turns t ts = with_own_memory (open_nest t) ∷ (ts ++ with_own_memory close ∷ [])

abbrev pub put_turns : (word : ℕ) → Bytes → List Turn
put_turns w x = with_own_memory (put w x) ∷ []

-- an attribute that is a nest is opened by its type, filled with a row, and closed
abbrev pub nested_turns_at : TurnsAt → TurnsAt
nested_turns_at f p w x = nest_turns (type_of w) (row_turns f (walk (p + 4) x))

-- those of one type have these turns, and any other is put
abbrev pub chosen_turns_at : (type : ℕ) → TurnsAt → TurnsAt
chosen_turns_at t f p w x = cond (type_of w == t) (f p w x) (put_turns w x)

-- the four layers
abbrev pub option_turns_at : TurnsAt
option_turns_at p w x = put_turns w x

abbrev pub attribute_turns_at : TurnsAt
attribute_turns_at = chosen_turns_at 2 (nested_turns_at option_turns_at)

abbrev pub action_turns_at : TurnsAt
action_turns_at = nested_turns_at attribute_turns_at

abbrev pub filter_turns_at : TurnsAt
filter_turns_at = chosen_turns_at 7 (nested_turns_at action_turns_at)
