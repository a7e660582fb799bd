-- The numbers of an attribute with a row inside, and of one without. Assumes nothing.
use Rattle.std.proofs.Common.{◌≡◌, ℕ, ◌+◌, List, [], ◌∷◌, length, Ok, Err, sym, refl, ap, ◌∙◌, arith, length-append}
use Rattle.model.specs.Attributes.{rounded, Attribute, attribute, encode}
use Rattle.model.specs.Faults.{FaultNumbers, Read, ◌>>=◌}
use Rattle.model.specs.Walk.{Walked}
use Rattle.model.specs.Reading.{each}
use Rattle.filter.specs.declared.tally.Tally.{Tally}
use Rattle.filter.specs.Summaries.{Summary, Reader, total, tally_of, tally_all, of_action_option}
use Rattle.filter.specs.Nests.{written_row, around}
use Rattle.filter.specs.WriteOut.{payload_length}
use Rattle.filter.proofs.Lengths.{length-encode, length-row}

abbrev pub tally : (items actions options size : ℕ) → Tally
tally i a o n = record { items = i; actions = a; action_options = o; length = n }

pub total-length : (l : List Summary) → (total l).length ≡ length (written_row l)
total-length [] = refl
total-length (s ∷ l) = let h = total-length l in let e = length-append (encode s.written) (written_row l) in omega arith

-- an attribute with no attributes inside
pub leaf-tally : (q : Read Summary) (a : Attribute) (n : ℕ) (t : Tally) → Ok (of_action_option a) ≡ q → n ≡ length a.payload → t ≡ tally 1 0 0 (4 + rounded n) → Ok t ≡ tally_of q
leaf-tally q a n t e h i =
    let size : 4 + rounded n ≡ length (encode a) = ap (λ (k : ℕ). 4 + rounded k) h ∙ sym (length-encode a) in
    ap (λ (u : Tally). Ok u) (i ∙ ap (tally 1 0 0) size) ∙ ap tally_of e

module _ (layer : ℕ) (f : Reader) (w : ℕ) (α β : Tally → ℕ) (q : Read Summary) where
  abbrev row_read : Read (List Summary) → Read Summary
  row_read k = k >>= λ l. Ok (around w α β l)

  ok_by : (k : Read (List Summary)) (row t : Tally) → row_read k ≡ q → (k >>= λ l. Ok (total l)) ≡ Ok row → t ≡ tally 1 (α row) (β row) (4 + row.length) → Ok t ≡ tally_of q
  ok_by (Err e) row t h r i = let z : ◌≡◌ {A = ℕ} 0 1 = cc in absurd (omega arith)
  ok_by (Ok l) row t h r i =
      let same : total l ≡ row = cc in
      let size : 4 + (total l).length ≡ length (encode (attribute w (written_row l))) =
      ap (λ (n : ℕ). 4 + n) (total-length l ∙ sym (length-row _)) ∙ sym (length-encode (attribute w (written_row l))) in
      ap (λ (u : Tally). Ok u) (i ∙ ap (λ (r : Tally). tally 1 (α r) (β r) (4 + r.length)) (sym same) ∙ ap (tally 1 (α (total l)) (β (total l))) size) ∙ ap tally_of h

  bad_by : (k : Read (List Summary)) (e : FaultNumbers) → row_read k ≡ q → (k >>= λ l. Ok (total l)) ≡ Err e → Err e ≡ tally_of q
  bad_by (Err d) e h r = let same : d ≡ e = cc in ap (λ (x : FaultNumbers). Err x) (sym same) ∙ ap tally_of h
  bad_by (Ok l) e h r = let z : ◌≡◌ {A = ℕ} 0 1 = cc in absurd (omega arith)

  payload_by : (k : Read (List Summary)) (row : Tally) → row_read k ≡ q → (k >>= λ l. Ok (total l)) ≡ Ok row → Ok row.length ≡ payload_length q
  payload_by (Err e) row h r = let z : ◌≡◌ {A = ℕ} 0 1 = cc in absurd (omega arith)
  payload_by (Ok l) row h r = let same : total l ≡ row = cc in ap (λ (n : ℕ). Ok n) (ap (λ (t : Tally). t.length) (sym same) ∙ total-length l) ∙ ap payload_length h

  payload_bad_by : (k : Read (List Summary)) (e : FaultNumbers) → row_read k ≡ q → (k >>= λ l. Ok (total l)) ≡ Err e → Err e ≡ payload_length q
  payload_bad_by (Err d) e h r = let same : d ≡ e = cc in ap (λ (x : FaultNumbers). Err x) (sym same) ∙ ap payload_length h
  payload_bad_by (Ok l) e h r = let z : ◌≡◌ {A = ℕ} 0 1 = cc in absurd (omega arith)

  -- the payload around a row
  pub nest_payload : (v : Walked) (row : Tally) → row_read (each layer f v) ≡ q → tally_all layer f v ≡ Ok row → Ok row.length ≡ payload_length q
  nest_payload v row = payload_by (each layer f v) row

  pub nest_payload_bad : (v : Walked) (e : FaultNumbers) → row_read (each layer f v) ≡ q → tally_all layer f v ≡ Err e → Err e ≡ payload_length q
  nest_payload_bad v e = payload_bad_by (each layer f v) e

  -- an attribute with a row inside
  pub nest-tally : (v : Walked) (row t : Tally) → row_read (each layer f v) ≡ q → tally_all layer f v ≡ Ok row → t ≡ tally 1 (α row) (β row) (4 + row.length) → Ok t ≡ tally_of q
  nest-tally v row t = ok_by (each layer f v) row t

  pub nest-bad : (v : Walked) (e : FaultNumbers) → row_read (each layer f v) ≡ q → tally_all layer f v ≡ Err e → Err e ≡ tally_of q
  nest-bad v e = bad_by (each layer f v) e
