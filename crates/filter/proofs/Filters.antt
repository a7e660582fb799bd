-- A whole filter in numbers. Assumes nothing.
use Rattle.std.proofs.Common.{◌≡◌, ◌≤◌, ltb, List, [], ◌∷◌, map, length, Ok, Err, sym, refl, ap, ◌∙◌, arith}
use Rattle.std.proofs.lemmas.Bool.{cond-false, le-ltb}
use Rattle.model.specs.Numbers.{Bytes}
use Rattle.model.specs.Faults.{fault, Read, ◌>>=◌}
use Rattle.model.specs.Walk.{walk}
use Rattle.model.specs.Book.{Meaning}
use Rattle.model.specs.Counts.{sum_of, options_in, actions_of}
use Rattle.model.specs.Reading.{Reading, read_option, read_options}
use Rattle.model.specs.Writing.{write_option}
use Rattle.filter.specs.declared.tally.Tally.{Tally}
use Rattle.filter.specs.Summaries.{Summary, total, tally_all, of_option, option_summary}
use Rattle.filter.specs.Reads.{tally_of_reading, filter_tally}
use Rattle.filter.proofs.Contents.{each_mapped, row_of, items_are, options_are}
use Rattle.filter.proofs.Nested.{total-length}

actions_are : (l : Reading) → (total (map of_option l)).actions ≡ sum_of (λ o. length (actions_of o)) l
actions_are [] = refl
actions_are (o ∷ l) = let h = actions_are l in omega arith

pub reading_total : (r : Reading) → total (map of_option r) ≡ tally_of_reading r
reading_total r = λ i. record {
  items = items_are of_option r i;
  actions = actions_are r i;
  action_options = options_are of_option (λ o. sum_of (λ a. sum_of options_in a.attributes) (actions_of o)) (λ o. refl) r i;
  length = (total-length (map of_option r) ∙ ap length (row_of of_option write_option (λ o. refl) r)) i;
}

module _ (m : Meaning) (bs : Bytes) (short : length bs ≤ 65531) where
  reading_by : (k : Read Reading) → ((k >>= λ l. Ok (map of_option l)) >>= λ l. Ok (total l)) ≡ (k >>= λ r. Ok (tally_of_reading r))
  reading_by (Ok r) = ap (λ (t : Tally). Ok t) (reading_total r)
  reading_by (Err e) = refl

  -- a filter that is not too long is its options
  pub filter_is : tally_all 1 (option_summary m) (walk 0 bs) ≡ filter_tally m bs
  filter_is =
      ap (λ (k : Read (List Summary)). k >>= λ l. Ok (total l)) (each_mapped 1 (read_option m) of_option (walk 0 bs))
      ∙ reading_by (read_options m bs)
      ∙ ap (λ (k : Read Reading). k >>= λ r. Ok (tally_of_reading r)) (sym (cond-false (ltb 65531 (length bs)) (Err (fault 1 0 1)) (read_options m bs) (le-ltb 65531 (length bs) short)))
