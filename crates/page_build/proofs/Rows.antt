-- One row of turns after another. Assumes nothing.
use Rattle.std.proofs.Common.{◌≡◌, ℕ, List, [], ◌∷◌, ◌++◌, Some, Ok, Result, sym, refl, ap, ◌∙◌, subst}
use Rattle.model.specs.Numbers.{Bytes}
use Rattle.model.specs.Book.{Meaning}
use Rattle.model.specs.Faults.{Read}
use Rattle.model.specs.Page.{State, open_nest, close}
use Rattle.model.specs.Runs.{Turn, with_own_memory, after, run}
use Rattle.model.specs.Walk.{Walked, item}
use Rattle.model.specs.declared.fault.Fault.{Fault}
use Rattle.netlink.specs.declared.buffer.NlaBuffer.{NlaBuffer}
use Rattle.netlink.specs.declared.walker.NlasIterator.{NlasIterator}
use Rattle.netlink.specs.Walking.{Goes}
use Rattle.page.specs.Steps.{Outcome, outcome, stepped}
use Rattle.page_build.specs.Fillings.{TurnsAt, row_turns, nest_turns}

-- a step of the walk that found an attribute
pub found-one : (s t : NlasIterator) (r : Result NlaBuffer Fault) (a : NlaBuffer) → r ≡ Ok a → Goes s (Some r) t → Goes s (Some (Ok a)) t
found-one s t r a e g = subst (λ (q : Result NlaBuffer Fault). Goes s (Some q) t) e g

pub run-append : (m : Meaning) (s : State) (ts us : List Turn) → run m s (ts ++ us) ≡ run m (run m s ts) us
run-append m s [] us = refl
run-append m s (t ∷ ts) us = run-append m (after m s t) ts us

-- one more attribute of a row
pub row_more : (m : Meaning) (f : TurnsAt) (s s' : State) (p w : ℕ) (x : Bytes) (r a : Walked) → a ≡ item p w x r → s' ≡ run m s (f p w x) → run m s' (row_turns f r) ≡ run m s (row_turns f a)
row_more m f s s' p w x r a e h =
    ap (λ (z : State). run m z (row_turns f r)) h ∙ sym (run-append m s (f p w x) (row_turns f r)) ∙ ap (λ (z : Walked). run m s (row_turns f z)) (sym e)

-- a nest that was opened, filled and closed
pub nest_filled : (m : Meaning) (s s₁ s₂ s₃ : State) (t : ℕ) (a b : Read (Unit {0})) (ts : List Turn) → outcome a s₁ ≡ stepped m s (open_nest t) → s₂ ≡ run m s₁ ts → outcome b s₃ ≡ stepped m s₂ close →
    s₃ ≡ run m s (nest_turns t ts)
nest_filled m s s₁ s₂ s₃ t a b ts opened filled closed =
    ap (λ (o : Outcome). o.after) closed
    ∙ ap (λ (z : State). after m z (with_own_memory close)) (filled ∙ ap (λ (o : Outcome). run m o.after ts) opened)
    ∙ sym (run-append m (after m s (with_own_memory (open_nest t))) ts (with_own_memory close ∷ []))
