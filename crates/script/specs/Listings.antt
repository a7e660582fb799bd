-- The calls of a script, and those for a written form. Assumes nothing.
use Rattle.std.specs.Prelude.{List, [], ◌∷◌}
use Rattle.model.specs.Runs.{Turn, with_own_memory}
use Rattle.page.specs.declared.call.Call.{Call}
use Rattle.page.specs.Calls.{meant}

-- each call with the page's memory
abbrev pub own_turns : List Call → List Turn
own_turns [] = []
own_turns (c ∷ cs) = with_own_memory (meant c) ∷ own_turns cs
