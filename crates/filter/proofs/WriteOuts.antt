-- Writing out a filter that reads: its lengths, its room, and its bytes. Assumes nothing.
use Rattle.std.proofs.Common.{◌≡◌, ℕ, ◌≤◌, cond, ltb, List, ◌∷◌, map, length, take, drop, Ok, Err, sym, refl, ap, ◌∙◌, subst, arith}
use Rattle.std.specs.List.{AllByRecursion}
use Rattle.std.proofs.lemmas.List.{take_at}
use Rattle.std.proofs.lemmas.Bool.{cond-false, le-ltb, ltb-false}
use Rattle.model.specs.Numbers.{Bytes, Octets}
use Rattle.model.specs.Faults.{FaultNumbers, fault, Read, ◌>>=◌}
use Rattle.model.specs.Walk.{Walked, done, bad, item, walk}
use Rattle.model.specs.Book.{Meaning, BookLaws}
use Rattle.model.specs.Reading.{FilterOption, Reading, each, read_option, read_options, read_filter}
use Rattle.model.specs.Writing.{write_option, written, fitting, write_out, written_over, output_after}
use Rattle.model.proofs.Each.{err-not-ok, ok_same, chain, passed}
use Rattle.model.proofs.RoundTrip.{round_trip}
use Rattle.filter.specs.declared.tally.Tally.{Tally}
use Rattle.filter.specs.Summaries.{Summary, of_option, option_summary}
use Rattle.filter.specs.Nests.{written_row}
use Rattle.filter.specs.Reads.{tally_of_reading, filter_tally}
use Rattle.filter.specs.Writes.{at_front, Short, RoomForRow, row_form}
use Rattle.filter.specs.WriteOut.{payload_length, lengths_checked, written_length}
use Rattle.filter.proofs.Contents.{each_mapped, row_of}

-- ── the lengths, option by option ──
module _ (m : Meaning) where
  -- where the options read, their lengths are those of the model
  pub lengths_are : (w : Walked) (r : Reading) → each 1 (read_option m) w ≡ Ok r → lengths_checked (option_summary m) w ≡ fitting w r
  lengths_are done r e = refl
  lengths_are (bad c p) r e = err-not-ok _ r e
  lengths_are (item p v x k) r e =
      let one = chain (read_option m p v x) (λ a. each 1 (read_option m) k >>= λ l. Ok (a ∷ l)) e in
      let more = chain (each 1 (read_option m) k) (λ l. Ok (one.0 ∷ l)) one.1.1 in
      let here : payload_length (option_summary m p v x) ≡ Ok (length (write_option one.0).payload) = ap (λ (y : Read FilterOption). payload_length (y >>= λ o. Ok (of_option o))) one.1.0 in
      ap (λ (y : Read ℕ). y >>= λ n. cond (ltb 65531 n) (Err (fault 15 p 1)) (lengths_checked (option_summary m) k)) here
      ∙ ap (cond (ltb 65531 (length (write_option one.0).payload)) (Err (fault 15 p 1))) (lengths_are k more.0 more.1.0)
      ∙ ap (fitting (item p v x k)) (ok_same more.1.1)

  -- where they all fit, each is short
  pub all_short : (w : Walked) (r : Reading) → each 1 (read_option m) w ≡ Ok r → fitting w r ≡ Ok tt → AllByRecursion Short (map of_option r)
  all_short done r e h = subst (λ (l : Reading). AllByRecursion Short (map of_option l)) (ok_same e) tt
  all_short (bad c p) r e h = err-not-ok _ r e
  all_short (item p v x k) r e h =
      let one = chain (read_option m p v x) (λ a. each 1 (read_option m) k >>= λ l. Ok (a ∷ l)) e in
      let more = chain (each 1 (read_option m) k) (λ l. Ok (one.0 ∷ l)) one.1.1 in
      let fits = passed (ltb 65531 (length (write_option one.0).payload)) (fault 15 p 1) (fitting k more.0) (ap (fitting (item p v x k)) (ok_same more.1.1) ∙ h) in
      subst (λ (l : Reading). AllByRecursion Short (map of_option l)) (ok_same more.1.1) (ltb-false 65531 (length (write_option one.0).payload) fits.0, all_short k more.0 more.1.0 fits.1)

  module _ (bs : Bytes) where
    -- a filter that reads is not too long, and its options read
    pub reads_short : (r : Reading) → read_filter m bs ≡ Ok r → (length bs ≤ 65531) × (read_options m bs ≡ Ok r)
    reads_short r e = let h = passed (ltb 65531 (length bs)) (fault 1 0 1) (read_options m bs) e in (ltb-false 65531 (length bs) h.0, h.1)

    pub tally-reads : (t : Tally) → filter_tally m bs ≡ Ok t → (r : Reading) × ((read_filter m bs ≡ Ok r) × (tally_of_reading r ≡ t))
    tally-reads t e = let h = chain (read_filter m bs) (λ r. Ok (tally_of_reading r)) e in (h.0, (h.1.0, ok_same h.1.1))

    by_lengths : (t : Tally) → filter_tally m bs ≡ Ok t → written_length m bs ≡ (lengths_checked (option_summary m) (walk 0 bs) >>= λ _. Ok t.length)
    by_lengths t e =
        let h = tally-reads t e in
        let r = h.0 in
        ap (λ (q : Read Reading). q >>= λ r. fitting (walk 0 bs) r >>= λ _. Ok (length (written r))) h.1.0
        ∙ ap (λ (n : ℕ). fitting (walk 0 bs) r >>= λ _. Ok n) (ap (λ (u : Tally). u.length) h.1.1)
        ∙ ap (λ (q : Read (Unit {0})). q >>= λ _. Ok t.length) (sym (lengths_are (walk 0 bs) r (reads_short r h.1.0).1))

    pub length-outgrown : (t : Tally) (e : FaultNumbers) → filter_tally m bs ≡ Ok t → lengths_checked (option_summary m) (walk 0 bs) ≡ Err e → Err e ≡ written_length m bs
    length-outgrown t e h q = sym (by_lengths t h ∙ ap (λ (y : Read (Unit {0})). y >>= λ _. Ok t.length) q)

    pub length-told : (t : Tally) (u : Unit {0}) → filter_tally m bs ≡ Ok t → lengths_checked (option_summary m) (walk 0 bs) ≡ Ok u → Ok t.length ≡ written_length m bs
    length-told t u h q = sym (by_lengths t h ∙ ap (λ (y : Read (Unit {0})). y >>= λ _. Ok t.length) q)

    -- ── the written form ──
    pub record Written (n : ℕ) : Type 0 where
      pub reading : Reading
      pub reads : read_filter m bs ≡ Ok reading
      pub fits : fitting (walk 0 bs) reading ≡ Ok tt
      pub size : length (written reading) ≡ n

    pub written_of : (n : ℕ) → written_length m bs ≡ Ok n → Written n
    written_of n e =
        let h = chain (read_filter m bs) (λ r. fitting (walk 0 bs) r >>= λ _. Ok (length (written r))) e in
        let k = chain (fitting (walk 0 bs) h.0) (λ _. Ok (length (written h.0))) h.1.1 in
        record { reading = h.0; reads = h.1.0; fits = k.1.0; size = ok_same k.1.1 }

    out_by : (q : Read Reading) (free : ℕ) (e : FaultNumbers) → (q >>= λ r. fitting (walk 0 bs) r >>= λ _. Ok (length (written r))) ≡ Err e →
        (q >>= λ r. fitting (walk 0 bs) r >>= λ _. cond (ltb free (length (written r))) (Err (fault 16 0 1)) (Ok (written r))) ≡ Err e
    out_by (Err d) free e h = cc
    out_by (Ok r) free e h = go (fitting (walk 0 bs) r) h
      where
        go : (k : Read (Unit {0})) → (k >>= λ _. Ok (length (written r))) ≡ Err e → (k >>= λ _. cond (ltb free (length (written r))) (Err (fault 16 0 1)) (Ok (written r))) ≡ Err e
        go (Ok u) h = let z : ◌≡◌ {A = ℕ} 0 1 = cc in absurd (omega arith)
        go (Err d) h = cc

    pub not_written : (free : ℕ) (e : FaultNumbers) → written_length m bs ≡ Err e → write_out m free bs ≡ Err e
    not_written free e h = out_by (read_filter m bs) free e h

    module _ {n : ℕ} (k : Written n) where
      pub written_out : (free : ℕ) → write_out m free bs ≡ cond (ltb free n) (Err (fault 16 0 1)) (Ok (written k.reading))
      written_out free =
          ap (λ (q : Read Reading). q >>= λ r. fitting (walk 0 bs) r >>= λ _. cond (ltb free (length (written r))) (Err (fault 16 0 1)) (Ok (written r))) k.reads
          ∙ ap (λ (q : Read (Unit {0})). q >>= λ _. cond (ltb free (length (written k.reading))) (Err (fault 16 0 1)) (Ok (written k.reading))) k.fits
          ∙ ap (λ (i : ℕ). cond (ltb free i) (Err (fault 16 0 1)) (Ok (written k.reading))) k.size

      pub room : (free : ℕ) → n ≤ free → write_out m free bs ≡ Ok (written k.reading)
      room free h = written_out free ∙ cond-false (ltb free n) (Err (fault 16 0 1)) (Ok (written k.reading)) (le-ltb free n h)

      pub summaries : each 1 (option_summary m) (walk 0 bs) ≡ Ok (map of_option k.reading)
      summaries = each_mapped 1 (read_option m) of_option (walk 0 bs) ∙ ap (λ (q : Read Reading). q >>= λ l. Ok (map of_option l)) (reads_short k.reading k.reads).1

      row_is : written_row (map of_option k.reading) ≡ written k.reading
      row_is = row_of of_option write_option (λ o. refl) k.reading

      pub row_room : (free : ℕ) → n ≤ free → RoomForRow (each 1 (option_summary m) (walk 0 bs)) free
      row_room free h =
          let short = all_short (walk 0 bs) k.reading (reads_short k.reading k.reads).1 k.fits in
          let size = ap length row_is ∙ k.size in
          subst (λ (q : Read (List Summary)). RoomForRow q free) (sym summaries) (short, omega (arith, size, h))

      pub row_bytes : row_form (each 1 (option_summary m) (walk 0 bs)) ≡ written k.reading
      row_bytes = ap row_form summaries ∙ row_is

      -- what the output holds
      pub output_is : (old : Bytes) → n ≤ length old → at_front old (written k.reading) ≡ output_after m old bs
      output_is old h = sym (ap (written_over old) (room (length old) h))

      -- and how that reads
      pub reads_again : (old : Bytes) → BookLaws m → Octets bs → n ≤ length old → n ≤ 65531 → read_filter m (take n (output_after m old bs)) ≡ read_filter m bs
      reads_again old law o h short =
          let size : length (written k.reading) ≡ n = k.size in
          let front : take n (output_after m old bs) ≡ written k.reading =
          ap (λ (q : Read Bytes). take n (written_over old q)) (room (length old) h) ∙ take_at (written k.reading) (drop (length (written k.reading)) old) n size in
          ap (read_filter m) front ∙ round_trip m law bs o k.reading k.reads (omega arith) ∙ sym k.reads
