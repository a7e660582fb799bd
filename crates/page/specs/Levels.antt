-- The heads of the open nests of a page. Assumes nothing.
use Rattle.std.specs.Prelude.{ℕ, ◌+◌, List, [], ◌∷◌}
use Rattle.page.specs.declared.level.Level.{Level}
use Rattle.page.specs.declared.level.Level.TheVariants.{Root, Actions, Action, Options}

-- their places, the innermost first
abbrev pub heads_of : Level → List ℕ
heads_of Root = []
heads_of (Actions a) = a ∷ []
heads_of (Action a b) = b ∷ a ∷ []
heads_of (Options a b c) = c ∷ b ∷ a ∷ []

-- where the innermost head begins, and where it ends
abbrev pub inmost : Level → ℕ
inmost Root = 0
inmost (Actions a) = a
inmost (Action a b) = b
inmost (Options a b c) = c

abbrev pub reach : Level → ℕ
reach Root = 0
reach (Actions a) = a + 4
reach (Action a b) = b + 4
reach (Options a b c) = c + 4

-- the level without the innermost nest
abbrev pub outer : Level → Level
outer Root = Root
outer (Actions a) = Root
outer (Action a b) = Actions a
outer (Options a b c) = Action a b
