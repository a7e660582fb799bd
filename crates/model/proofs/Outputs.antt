-- Writing out keeps the output's length and what is beyond the written form, and a refusal keeps all of it. Assumes nothing.
use Rattle.std.proofs.Common.{◌≡◌, ℕ, ◌+◌, ◌-◌, ◌≤◌, ltb, length, get_or, take, drop, Ok, Err, refl, ap, ◌∙◌, arith, length-append, length-drop}
use Rattle.std.proofs.lemmas.Bool.{ltb-false}
use Rattle.std.proofs.lemmas.List.{take_at, get_or-append_right, get_or-drop}
use Rattle.model.specs.Numbers.{Bytes}
use Rattle.model.specs.Faults.{Read}
use Rattle.model.specs.Walk.{walk}
use Rattle.model.specs.Book.{Meaning}
use Rattle.model.specs.Reading.{read_filter}
use Rattle.model.specs.Writing.{written, fitting, write_out, written_over, OutputKeepsTheRest}
use Rattle.model.proofs.Each.{chain, passed, ok_same}

-- what is written out fits
fits : (m : Meaning) (free : ℕ) (bs x : Bytes) → write_out m free bs ≡ Ok x → length x ≤ free
fits m free bs x q =
    let r = chain (read_filter m bs) _ q in
    let f = chain (fitting (walk 0 bs) r.0) _ r.1.1 in
    let t = passed (ltb free (length (written r.0))) _ _ f.1.1 in
    let same : written r.0 ≡ x = ok_same t.1 in
    let short : length (written r.0) ≤ free = ltb-false free (length (written r.0)) t.0 in
    let size : length (written r.0) ≡ length x = ap length same in omega arith

size-kept : (output : Bytes) (r : Read Bytes) → ((x : Bytes) → r ≡ Ok x → length x ≤ length output) → length (written_over output r) ≡ length output
size-kept output (Ok x) h = let short : length x ≤ length output = h x refl in simp (length-append, length-drop) (omega arith)
size-kept output (Err e) h = refl

pub output_keeps_the_rest : OutputKeepsTheRest
output_keeps_the_rest = record {
  size = λ m output bs. size-kept output (write_out m (length output) bs) (fits m (length output) bs);
  front = λ m output bs x q. ap (λ r. take (length x) (written_over output r)) q ∙ take_at x (drop (length x) output) (length x) refl;
  beyond = λ m output bs x i q h.
      let here : length x + (i - length x) ≡ i = omega arith in
      ap (λ r. get_or (written_over output r) i 0) q ∙ get_or-append_right x (drop (length x) output) (length x) i 0 refl h
      ∙ get_or-drop (length x) output (i - length x) 0 ∙ ap (λ j. get_or output j 0) here;
  untouched = λ m output bs e q. ap (written_over output) q;
}
