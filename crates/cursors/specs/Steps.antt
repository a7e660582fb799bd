-- Reading a row of attributes step by step. Assumes nothing.
use Rattle.std.specs.Prelude.{◌≡◌, ℕ, List, [], ◌∷◌, Ok, Err}
use Rattle.model.specs.Numbers.{Bytes}
use Rattle.model.specs.Faults.{fault, Read, ◌>>=◌}
use Rattle.model.specs.Walk.{Walked, done, bad, item}
use Rattle.model.specs.Book.{Judgement}
use Rattle.model.specs.Reading.{FilterOption, Action, ActionAttribute, each}

-- one step: the row ends; or an attribute, or the fault of its head, and then the rest of the row
pub data Step (A : Type 0) : Type 0 where
  ended : Step A
  reads : Read A → Walked → Step A

-- the next of a row whose attributes are read by f
abbrev pub next_of : {A : Type 0} → (layer : ℕ) → (ℕ → ℕ → Bytes → Read A) → Walked → Step A
next_of layer f done = ended
next_of layer f (bad c p) = reads (Err (fault c p layer)) done
next_of layer f (item p w x rest) = reads (f p w x) rest

-- a step, and then the reading of the rest
abbrev pub onward : {A : Type 0} → (layer : ℕ) → (ℕ → ℕ → Bytes → Read A) → Step A → Read (List A)
onward layer f ended = Ok []
onward layer f (reads r rest) = r >>= λ a. each layer f rest >>= λ l. Ok (a ∷ l)

-- step by step a row reads as the whole
abbrev pub ReadsStepByStep : Type 0 → Type 0
ReadsStepByStep A = (layer : ℕ) (f : ℕ → ℕ → Bytes → Read A) (w : Walked) → each layer f w ≡ onward layer f (next_of layer f w)

pub record StepsMakeTheReading : Type 0 where
  pub of_options : ReadsStepByStep FilterOption
  pub of_actions : ReadsStepByStep Action
  pub of_attributes : ReadsStepByStep ActionAttribute
  pub of_action_options : ReadsStepByStep Judgement
