-- Which attributes hold attributes. Assumes nothing.
use Rattle.std.specs.Prelude.{ℕ, cond, Some, None, Option, ◌==◌}
use Rattle.model.specs.declared.fault.Layer.{Layer}
use Rattle.model.specs.declared.fault.Layer.TheVariants.{FilterOption, Action, ActionAttribute, ActionOption}

-- a filter's option of type 7 holds actions, an action its attributes, and an action's attribute of type 2 its options
abbrev pub layer_inside : Layer → (type : ℕ) → Option Layer
layer_inside FilterOption t = cond (t == 7) (Some Action) None
layer_inside Action t = Some ActionAttribute
layer_inside ActionAttribute t = cond (t == 2) (Some ActionOption) None
layer_inside ActionOption t = None
