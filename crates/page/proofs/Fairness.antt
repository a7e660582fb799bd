-- The turns that code can pass. Assumes nothing.
use Rattle.std.proofs.Common.{◌≡◌, ℕ, Bool, true, false, cond, eqb, length, Err, sym, refl, subst, arith, Bor}
use Rattle.std.proofs.lemmas.Bool.{eqb-false}
use Rattle.model.specs.Numbers.{Bytes}
use Rattle.model.specs.Faults.{FaultNumbers}
use Rattle.model.specs.Page.{InRange, check}
use Rattle.model.specs.Runs.{with_own_memory, with_other_memory}
use Rattle.page.specs.declared.call.Call.{Call}
use Rattle.page.specs.declared.turn.Turn.{Turn}
use Rattle.page.specs.declared.turn.Turn.TheVariants.{Own, Other}
use Rattle.page.specs.Calls.{meant}
use Rattle.page.specs.Turns.{turn_meant, Fair}

pub own_fair : (n : ℕ) (t : Turn) (c : Call) → t ≡ Own c → InRange (meant c) → Fair n (turn_meant n t)
own_fair n t c is h = subst (λ (z : Turn). Fair n (turn_meant n z)) (sym is) h

module _ (n : ℕ) (t : Turn) (bs : Bor Bytes) (c : Call) (is : t ≡ Other bs c) where
  by : (b : Bool) → eqb (length bs.now) n ≡ b → (b ≡ true → InRange (meant c)) → Fair n (cond b (with_own_memory (meant c)) (with_other_memory bs.now (meant c)))
  by true e h = h refl
  by false e h = eqb-false (length bs.now) n e

  -- other memory of the page's length is its own
  pub other_fair : InRange (meant c) → Fair n (turn_meant n t)
  other_fair h = subst (λ (z : Turn). Fair n (turn_meant n z)) (sym is) (by (eqb (length bs.now) n) refl (λ _. h))

  -- and of another length it is refused
  pub refused_fair : (e f : FaultNumbers) → Err e ≡ check (eqb (length bs.now) n) f → Fair n (turn_meant n t)
  refused_fair e f k = subst (λ (z : Turn). Fair n (turn_meant n z)) (sym is) (by (eqb (length bs.now) n) refl (λ q. let z : ◌≡◌ {A = ℕ} 0 1 = never (eqb (length bs.now) n) k q in absurd (omega arith)))
    where
      never : (b : Bool) → Err e ≡ check b f → b ≡ true → ◌≡◌ {A = ℕ} 0 1
      never true k q = cc
      never false k q = cc
