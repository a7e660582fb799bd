-- The script for a written form. Assumes nothing.
use Rattle.std.specs.Prelude.{◌≡◌, ℕ, ◌<◌, List, length, Ok, Err, Result, vec_items}
use Rattle.model.specs.Faults.{fault, numbers}
use Rattle.model.specs.Walk.{walk}
use Rattle.page_build.specs.Fillings.{row_turns, filter_turns_at}
use Rattle.script.specs.declared.calls.Script.{Script}
use Rattle.script.specs.declared.calls.Unscripted.{Unscripted}
use Rattle.script.specs.declared.calls.Unscripted.TheVariants.{Refused, NoMemory}
use Rattle.script.specs.Listings.{own_turns}

-- its page has just its length, and its calls are those by which a filter is built; or it is too long for a page; or there was no memory
abbrev pub Scripted : List ℕ → Result Script Unscripted → Type 0
Scripted bs (Ok s) = (s.size ≡ length bs) × (own_turns (vec_items s.calls) ≡ row_turns filter_turns_at (walk 0 bs))
Scripted bs (Err (Refused f)) = (65531 < length bs) × (numbers f ≡ fault 1 0 1)
Scripted bs (Err NoMemory) = Unit {0}
