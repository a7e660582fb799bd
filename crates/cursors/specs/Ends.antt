-- Where a walk ends, a cursor over it ends. Assumes nothing.
use Rattle.std.proofs.Common.{◌≡◌, ℕ, None, sym, ap}
use Rattle.model.specs.Numbers.{Bytes}
use Rattle.model.specs.Faults.{layer_number, Read}
use Rattle.model.specs.Walk.{Walked}
use Rattle.netlink.specs.declared.walker.NlasIterator.{NlasIterator}
use Rattle.netlink.specs.Walking.{Goes}
use Rattle.cursors.specs.Steps.{ended, next_of}
use Rattle.cursors.specs.Heard.{step_of}
use Rattle.cursors.specs.Moves.{Stays}

module _ (s t : NlasIterator) (g : Goes s None t) where
  pub ended_there : {A : Type 0} (f : ℕ → ℕ → Bytes → Read A) → ended ≡ step_of f s
  ended_there f = sym (ap (λ (w : Walked). next_of (layer_number s.layer) f w) g.0)

  pub stays_there : Stays s t
  stays_there = (ap (λ (x : NlasIterator). x.end) g.1, ap (λ (x : NlasIterator). x.layer) g.1)
