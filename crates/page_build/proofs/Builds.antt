-- A filter that was written out, and its written form walked over and put on a page. Assumes nothing.
use Rattle.std.proofs.Common.{◌≡◌, ℕ, ◌<◌, ◌≤◌, Bool, true, false, cond, ltb, [], length, take, drop, Ok, Err, sym, refl, ap, ◌∙◌, subst, arith}
use Rattle.std.proofs.lemmas.List.{take_at}
use Rattle.std.proofs.lemmas.Bool.{le-ltb, lt-ltb, ltb-false, cond-true, cond-false}
use Rattle.model.specs.Numbers.{Bytes, Octets}
use Rattle.model.specs.Faults.{FaultNumbers, fault, Read, ◌>>=◌}
use Rattle.model.specs.Book.{Meaning, BookLaws}
use Rattle.model.specs.Walk.{walk}
use Rattle.model.specs.Writing.{written, write_out, written_over, output_after}
use Rattle.model.specs.Page.{Page, State, state, only_fault, new_page}
use Rattle.model.specs.Runs.{run, start}
use Rattle.model.specs.Building.{reading_turns}
use Rattle.model.proofs.Pages.{reading_built}
use Rattle.model.proofs.WriteRefusals.{writing_out_answers_the_first_cause}
use Rattle.filter.specs.WriteOut.{length_out}
use Rattle.page.specs.Reaching.{HoldsWritten}
use Rattle.page_build.specs.Builds.{building, Built}
use Rattle.page_build.specs.Fillings.{row_turns, filter_turns_at}
use Rattle.page_build.proofs.ReadingTurns.{reading_same}

pub wrote_by : (q : Read Bytes) (n : ℕ) → Ok n ≡ (q >>= λ x. Ok (length x)) → (x : Bytes) × ((q ≡ Ok x) × (n ≡ length x))
wrote_by (Ok x) n h = (x, (refl, cc))
wrote_by (Err e) n h = let z : ◌≡◌ {A = ℕ} 0 1 = cc in absurd (omega arith)

pub failed_by : (q : Read Bytes) (e : FaultNumbers) → Err e ≡ (q >>= λ x. Ok (length x)) → q ≡ Err e
failed_by (Ok x) e h = let z : ◌≡◌ {A = ℕ} 0 1 = cc in absurd (omega arith)
failed_by (Err d) e h = cc

made_by : (b : Bool) (g : Page) (n : ℕ) → ltb 65531 n ≡ b → Ok g ≡ cond b (Err (fault 1 0 1)) (Ok (record { size = n; used = 0; heads = [] })) → (n ≤ 65531) × (g ≡ record { size = n; used = 0; heads = [] })
made_by true g n e h = let z : ◌≡◌ {A = ℕ} 0 1 = cc in absurd (omega arith)
made_by false g n e h = (ltb-false 65531 n e, cc)

-- what a page newly made tells
pub made_page : (g : Page) (mem : Bytes) → Ok g ≡ new_page (length mem) → (length mem ≤ 65531) × (state g mem ≡ start mem)
made_page g mem h = let k = made_by (ltb 65531 (length mem)) g (length mem) refl h in (k.0, ap (λ (q : Page). state q mem) k.1)

module _ (m : Meaning) (old bs : Bytes) (n : ℕ) where
  -- where writing out is refused, so is the building
  pub not_written : (e : FaultNumbers) → Err e ≡ length_out m (length old) bs → Err e ≡ building m (length old) n bs
  not_written e h = sym (ap (λ (q : Read Bytes). q >>= λ x. cond (ltb n (length x)) (Err (fault 16 0 1)) (only_fault (new_page n))) (failed_by (write_out m (length old) bs) e h))

  module _ (size : ℕ) (wrote : Ok size ≡ length_out m (length old) bs) where
    abbrev form : (x : Bytes) × ((write_out m (length old) bs ≡ Ok x) × (size ≡ length x))
    form = wrote_by (write_out m (length old) bs) size wrote

    goes_on : building m (length old) n bs ≡ cond (ltb n (length form.0)) (Err (fault 16 0 1)) (only_fault (new_page n))
    goes_on = ap (λ (q : Read Bytes). q >>= λ x. cond (ltb n (length x)) (Err (fault 16 0 1)) (only_fault (new_page n))) form.1.0

    pub too_short : n < size → Err (fault 16 0 1) ≡ building m (length old) n bs
    too_short h = let is : size ≡ length form.0 = form.1.1 in sym (goes_on ∙ cond-true _ _ _ (lt-ltb n (length form.0) (omega arith)))

    pub fits : size ≤ n → only_fault (new_page n) ≡ building m (length old) n bs
    fits h = let is : size ≡ length form.0 = form.1.1 in sym (goes_on ∙ cond-false _ _ _ (le-ltb n (length form.0) (omega arith)))

    pub front : (new : Bytes) → new ≡ output_after m old bs → take size new ≡ form.0
    front new e =
        ap (λ (b : Bytes). take size b) (e ∙ ap (written_over old) form.1.0) ∙ take_at form.0 (drop (length form.0) old) size (sym form.1.1)

    pub built : BookLaws m → Octets bs → (mem : Bytes) → size ≤ length mem → length mem ≤ 65531 → (new : Bytes) → new ≡ output_after m old bs →
        (s : State) → s ≡ run m (start mem) (row_turns filter_turns_at (walk 0 (take size new))) → Built m bs mem s
    built laws o mem room small new e s left =
        let k = writing_out_answers_the_first_cause.value m (length old) bs form.0 form.1.0 in
        let r = k.0 in
        let size_is : size ≡ length (written r) = form.1.1 ∙ ap length k.1.1 in
        let turns : row_turns filter_turns_at (walk 0 (take size new)) ≡ reading_turns r =
        ap (λ (x : Bytes). row_turns filter_turns_at (walk 0 x)) (front new e ∙ k.1.1) ∙ reading_same m laws bs o r k.1.0 (omega arith) in
        let by : s ≡ run m (start mem) (reading_turns r) = left ∙ ap (run m (start mem)) turns in
        let h = reading_built m laws bs o r k.1.0 mem small (omega arith) in
        record {
          reading = r;
          reads = k.1.0;
          by_its_calls = by;
          holds = subst (λ (z : State). HoldsWritten z r) (sym by) (record { bytes = h.1; nests = h.2 });
        }
