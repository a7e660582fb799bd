-- Two filters that are written out are written alike exactly when their readings are equal. Assumes nothing.
use Rattle.std.proofs.Common.{◌≡◌, ℕ, ◌-◌, Bool, length, take, drop, Ok, Decides, sym, ap, ◌∙◌, arith}
use Rattle.std.specs.Str.{bytes_eq}
use Rattle.std.proofs.lemmas.Slice.Eq.{bytes_eq-Decides}
use Rattle.std.proofs.lemmas.List.{take_at}
use Rattle.model.specs.Numbers.{Bytes, Octets}
use Rattle.model.specs.Book.{Meaning, BookLaws}
use Rattle.model.specs.Reading.{read_filter}
use Rattle.model.specs.Writing.{write_out, written_over, output_after}
use Rattle.model.proofs.Each.{ok_same, chain}
use Rattle.model.proofs.RoundTrip.{canonical}
use Rattle.filter.specs.WriteOut.{length_out}

module _ (m : Meaning) (bs : Bytes) where
  pub out_written : (free n : ℕ) → length_out m free bs ≡ Ok n → (x : Bytes) × ((write_out m free bs ≡ Ok x) × (length x ≡ n))
  out_written free n e = let h = chain (write_out m free bs) (λ x. Ok (length x)) e in (h.0, (h.1.0, ok_same h.1.1))

  -- the front of the output is what was written
  pub front_is : (old new x : Bytes) (n : ℕ) → write_out m (length old) bs ≡ Ok x → length x ≡ n → new ≡ output_after m old bs → take (n - 0) new ≡ x
  front_is old new x n e s h =
      let none : n - 0 ≡ n = omega arith in
      ap (λ (i : ℕ). take i new) none ∙ ap (take n) (h ∙ ap (written_over old) e) ∙ take_at x (drop (length x) old) n s

module _ (m : Meaning) (law : BookLaws m) (bs cs : Bytes) (o : Octets bs) (o' : Octets cs) (free free' : ℕ) (x y : Bytes) (e : write_out m free bs ≡ Ok x) (e' : write_out m free' cs ≡ Ok y) where
  pub alike_decides : (t : Bool) → t ≡ bytes_eq x y → Decides t (read_filter m bs ≡ read_filter m cs)
  alike_decides t h =
      let same = bytes_eq-Decides x y in
      let one = canonical m law bs cs o o' free free' x y e e' in
      (λ q. one.0 (same.0 (sym h ∙ q)), λ q. h ∙ same.1 (one.1 q))
