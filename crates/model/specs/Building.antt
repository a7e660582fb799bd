-- The calls that put a filter together as it is written: each attribute is put, and each nest opened, filled and closed. Assumes nothing.
use Rattle.std.specs.Prelude.{List, [], ◌∷◌, ◌++◌}
use Rattle.std.specs.List.{flat_map}
use Rattle.model.specs.Attributes.{Attribute}
use Rattle.model.specs.Reading.{ActionAttribute, kind, options, index, stats, cookie, in_hw_count, other, Action, Reading, FilterOption, class_id, hash, link, divisor, selector, police, actions, indev, pcnt, mark, flags, default}
use Rattle.model.specs.Writing.{write_attribute, write_option}
use Rattle.model.specs.Page.{put, open_nest, close}
use Rattle.model.specs.Runs.{Turn, with_own_memory}

abbrev pub put_of : Attribute → Turn
put_of a = with_own_memory (put a.word a.payload)

abbrev pub attribute_turns : ActionAttribute → List Turn
attribute_turns (kind t) = put_of (write_attribute (kind t)) ∷ []
attribute_turns (options l) = with_own_memory (open_nest 2) ∷ (flat_map (λ a. put_of a ∷ []) l ++ (with_own_memory close ∷ []))
attribute_turns (index n) = put_of (write_attribute (index n)) ∷ []
attribute_turns (stats x) = put_of (write_attribute (stats x)) ∷ []
attribute_turns (cookie x) = put_of (write_attribute (cookie x)) ∷ []
attribute_turns (in_hw_count n) = put_of (write_attribute (in_hw_count n)) ∷ []
attribute_turns (other w x) = put_of (write_attribute (other w x)) ∷ []

abbrev pub action_turns : Action → List Turn
action_turns a = with_own_memory (open_nest a.tab) ∷ (flat_map attribute_turns a.attributes ++ (with_own_memory close ∷ []))

abbrev pub option_turns : FilterOption → List Turn
option_turns (class_id a b) = put_of (write_option (class_id a b)) ∷ []
option_turns (hash n) = put_of (write_option (hash n)) ∷ []
option_turns (link n) = put_of (write_option (link n)) ∷ []
option_turns (divisor n) = put_of (write_option (divisor n)) ∷ []
option_turns (selector s) = put_of (write_option (selector s)) ∷ []
option_turns (police x) = put_of (write_option (police x)) ∷ []
option_turns (actions l) = with_own_memory (open_nest 7) ∷ (flat_map action_turns l ++ (with_own_memory close ∷ []))
option_turns (indev x) = put_of (write_option (indev x)) ∷ []
option_turns (pcnt x) = put_of (write_option (pcnt x)) ∷ []
option_turns (mark x) = put_of (write_option (mark x)) ∷ []
option_turns (flags n) = put_of (write_option (flags n)) ∷ []
option_turns (default w x) = put_of (write_option (default w x)) ∷ []

abbrev pub reading_turns : Reading → List Turn
reading_turns r = flat_map option_turns r
