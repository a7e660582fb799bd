-- What a reading counts: options, actions, action options. Assumes nothing.
use Rattle.std.specs.Prelude.{ℕ, ◌+◌, List, [], ◌∷◌, length}
use Rattle.model.specs.Reading.{ActionAttribute, kind, options, index, stats, cookie, in_hw_count, other, Action, FilterOption, class_id, hash, link, divisor, selector, police, actions, indev, pcnt, mark, flags, default, Reading}

abbrev pub sum_of : {A : Type 0} → (A → ℕ) → List A → ℕ
sum_of f [] = 0
sum_of f (a ∷ l) = f a + sum_of f l

abbrev pub options_in : ActionAttribute → ℕ
options_in (kind t) = 0
options_in (options l) = length l
options_in (index n) = 0
options_in (stats x) = 0
options_in (cookie x) = 0
options_in (in_hw_count n) = 0
options_in (other w x) = 0

abbrev pub actions_of : FilterOption → List Action
actions_of (class_id a b) = []
actions_of (hash n) = []
actions_of (link n) = []
actions_of (divisor n) = []
actions_of (selector s) = []
actions_of (police x) = []
actions_of (actions l) = l
actions_of (indev x) = []
actions_of (pcnt x) = []
actions_of (mark x) = []
actions_of (flags n) = []
actions_of (default w x) = []

pub record Counts : Type 0 where
  pub of_options : ℕ
  pub of_actions : ℕ
  pub of_action_options : ℕ

abbrev pub counts : Reading → Counts
counts r = record {
  of_options = length r;
  of_actions = sum_of (λ o. length (actions_of o)) r;
  of_action_options = sum_of (λ o. sum_of (λ a. sum_of options_in a.attributes) (actions_of o)) r;
}
