-- The numbers of a row of attributes, and how they add up. Assumes nothing.
use Rattle.std.specs.Prelude.{ℕ, ◌+◌, ◌*◌, ◌^◌, ◌<◌, ◌≤◌}
use Rattle.filter.specs.declared.tally.Tally.{Tally}

abbrev pub nothing : Tally
nothing = record { items = 0; actions = 0; action_options = 0; length = 0 }

abbrev pub joined : Tally → Tally → Tally
joined s t = record { items = s.items + t.items; actions = s.actions + t.actions; action_options = s.action_options + t.action_options; length = s.length + t.length }

-- numbers of two rows that can be added up
abbrev pub Addable : Tally → Tally → Type 0
Addable s t = (s.items + t.items < 2 ^ 64) × (s.actions + t.actions < 2 ^ 64) × (s.action_options + t.action_options < 2 ^ 64) × (s.length + t.length < 2 ^ 64)

-- no more of anything than n bytes can hold: each attribute has a head of 4 bytes, a kind gains at most one byte and each attribute at most 3 of padding
abbrev pub Bounded : Tally → (n : ℕ) → Type 0
Bounded t n = (t.items ≤ n) × (t.actions ≤ n) × (t.action_options ≤ n) × (t.length ≤ 2 * n)
