-- A book's second call fills memory of the length that its first call tells, and keeps any other. Assumes nothing.
use Rattle.std.proofs.Common.{◌≡◌, ℕ, true, false, length, refl, arith}
use Rattle.std.proofs.lemmas.Bool.Decides.{nat_tests}
use Rattle.std.proofs.lemmas.Bool.{eq-eqb, cond-true, cond-false}
use Rattle.model.specs.Numbers.{Bytes}
use Rattle.model.specs.Book.{Answer, accept, refuse, Meaning, BookLaws, written_as, refused_by, judgement, writes, memory_after_writing, BookCallsAgree}

module _ (m : Meaning) (laws : BookLaws m) (k : Bytes) (w : ℕ) (x : Bytes) where
  filled : (a : Answer) → m k w x ≡ a → (w' n : ℕ) (mem : Bytes) → judgement a ≡ written_as w' n → length mem ≡ n →
      (writes a mem ≡ true) × (length (memory_after_writing a mem) ≡ n) × (m k w' (memory_after_writing a mem) ≡ accept w' (memory_after_writing a mem))
  filled (accept v y) e w' n mem j h =
      let same : v ≡ w' = cc in
      let size : length y ≡ length mem = cc in
      let now : memory_after_writing (accept v y) mem ≡ y = cond-true _ y mem (eq-eqb (length y) (length mem) size) in
      let settled : m k v y ≡ accept v y = laws.settled k w x v y e in
      (eq-eqb (length y) (length mem) size, cc, cc)
  filled (refuse i need) e w' n mem j h = let z : ◌≡◌ {A = ℕ} 0 1 = cc in absurd (omega arith)

kept : (a : Answer) (mem : Bytes) → writes a mem ≡ false → memory_after_writing a mem ≡ mem
kept (accept w x) mem e = cond-false _ x mem e
kept (refuse n need) mem e = refl

other_length : (a : Answer) (w n : ℕ) (mem : Bytes) → judgement a ≡ written_as w n → ¬ (length mem ≡ n) → writes a mem ≡ false
other_length (accept v y) w n mem j h = let size : length y ≡ n = cc in grind (arith, nat_tests)
other_length (refuse i need) w n mem j h = refl

refusal : (a : Answer) (n need : ℕ) (mem : Bytes) → judgement a ≡ refused_by n need → writes a mem ≡ false
refusal (accept w x) n need mem j = let z : ◌≡◌ {A = ℕ} 0 1 = cc in absurd (omega arith)
refusal (refuse i f) n need mem j = refl

pub book_calls_agree : BookCallsAgree
book_calls_agree m laws = record {
  filled = λ k w x. filled m laws k w x (m k w x) refl;
  kept = λ k w x. kept (m k w x);
  other_length = λ k w x. other_length (m k w x);
  refusal = λ k w x. refusal (m k w x);
}
