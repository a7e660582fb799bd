-- Runs: lists of calls on one page from its making. Assumes nothing.
use Rattle.std.specs.Prelude.{ℕ, cond, List, [], ◌∷◌, length, take}
use Rattle.model.specs.Numbers.{Bytes}
use Rattle.model.specs.Faults.{Read}
use Rattle.model.specs.Book.{Meaning}
use Rattle.model.specs.Page.{Call, InRange, State, state, accepted, verdict, page_after, memory_after}

-- a call, and the memory that it is lent: the page's own, or one of another length
pub data Turn : Type 0 where
  with_own_memory : Call → Turn
  with_other_memory : Bytes → Call → Turn

abbrev pub TurnInRange : (size : ℕ) → Turn → Type 0
TurnInRange n (with_own_memory c) = InRange c
TurnInRange n (with_other_memory bs c) = InRange c × ¬ (mathlib.Core.Path.◌≡◌ (length bs) n)

abbrev pub Run : (size : ℕ) → List Turn → Type 0
Run n [] = Unit {0}
Run n (t ∷ ts) = TurnInRange n t × Run n ts

abbrev pub call_of : Turn → Call
call_of (with_own_memory c) = c
call_of (with_other_memory bs c) = c

abbrev pub lent : State → Turn → Bytes
lent s (with_own_memory c) = s.memory
lent s (with_other_memory bs c) = bs

module _ (m : Meaning) where
  abbrev pub answer : State → Turn → Read (Unit {0})
  answer s t = verdict m s.page (lent s t) (call_of t)

  abbrev pub after : State → Turn → State
  after s t = cond (accepted (answer s t)) (state (page_after s.page (call_of t)) (memory_after s.page (lent s t) (call_of t))) s

  abbrev pub run : State → List Turn → State
  run s [] = s
  run s (t ∷ ts) = run (after s t) ts

abbrev pub start : Bytes → State
start mem = state (record { size = length mem; used = 0; heads = [] }) mem

abbrev pub page_bytes : State → Bytes
page_bytes s = take s.page.used s.memory
