-- After every run the page's bytes are its card's, and so read. Assumes nothing.
use Rattle.std.proofs.Common.{◌≡◌, ℕ, zero, suc, ◌+◌, ◌<◌, ◌≤◌, Bool, false, cond, eqb, List, [], ◌∷◌, ◌++◌, map, length, Ok, Err, sym, refl, ap, ◌∙◌, subst, ap₂, append_assoc, zero-add, arith, length-append, le-ltb, ne_eqb}
use Rattle.std.proofs.lemmas.List.{take_at}
use Rattle.std.specs.List.{AllByRecursion}
use Rattle.model.specs.Numbers.{Bytes}
use Rattle.model.specs.Faults.{Read, ◌>>=◌, fault}
use Rattle.model.specs.Attributes.{rounded, Writable, head, encode, encode_all}
use Rattle.model.specs.Walk.{walk_in}
use Rattle.model.specs.Book.{Meaning}
use Rattle.model.specs.Reading.{each, Action, FilterOption, Reading, read_option, read_options, read_filter}
use Rattle.model.specs.Counts.{actions_of, options_in, sum_of, counts}
use Rattle.model.specs.Page.{Call, InRange, verdict, State, state, accepted, page_after, memory_after}
use Rattle.model.specs.Runs.{Turn, with_own_memory, with_other_memory, TurnInRange, Run, call_of, answer, after, run, start, page_bytes}
use Rattle.model.specs.Card.{CardAction, PageItem, Card, level0, level1, level2, level3, feed, card_from, card_of, page_action_item_attribute, page_items_bytes, card_actions_bytes, action_items_bytes, card_bytes, page_list, open_nests, outermost}
use Rattle.model.specs.CardReading.{read_page_item, page_items_reading, card_actions_in, options_of, page_items_counts}
use Rattle.model.specs.Laws.{PageAgrees, PageIsItsCard}
use Rattle.model.proofs.Walk.{walk_of_encode, step_over, length-encode}
use Rattle.model.proofs.Each.{all_mapped}
use Rattle.model.proofs.Cards.{GoodPageItem, Both, Reads, found_reads, all-reads, lengths}
use Rattle.model.proofs.Steps.{heads_of, page_of, state_of, GoodCard, Holds, step}

-- ── runs ──
module _ (m : Meaning) (n : ℕ) (small : n ≤ 65531) where
  by_answer : (k : Card) (c : Call) (tail : Bytes) → GoodCard m k → length (card_bytes k ++ tail) ≡ n → InRange c →
      (r : Read (Unit {0})) → verdict m (page_of n k) (card_bytes k ++ tail) c ≡ r →
      Holds m n (feed k c (accepted r)) (cond (accepted r) (state (page_after (page_of n k) c) (memory_after (page_of n k) (card_bytes k ++ tail) c)) (state_of n k tail))
  by_answer k c tail good len in-range (Ok a) e = step m n small k c tail good len in-range e
  by_answer k c tail good len in-range (Err f) e = (tail, (refl, len, good))

  turn_from : (k : Card) (t : Turn) (tail : Bytes) → GoodCard m k → length (card_bytes k ++ tail) ≡ n → TurnInRange n t →
      Holds m n (feed k (call_of t) (accepted (answer m (state_of n k tail) t))) (after m (state_of n k tail) t)
  turn_from k (with_own_memory c) tail good len fair = by_answer k c tail good len fair (verdict m (page_of n k) (card_bytes k ++ tail) c) refl
  turn_from k (with_other_memory bs c) tail good len fair = refused c (ne_eqb (length bs) n fair.1)
    where
      refused : (c : Call) → eqb (length bs) n ≡ false → Holds m n (feed k c (accepted (verdict m (page_of n k) bs c))) (cond (accepted (verdict m (page_of n k) bs c)) (state (page_after (page_of n k) c) (memory_after (page_of n k) bs c)) (state_of n k tail))
      refused (Call.put w x) e = rw e (tail, (refl, len, good))
      refused (Call.open_nest t) e = rw e (tail, (refl, len, good))
      refused Call.close e = rw e (tail, (refl, len, good))
      refused Call.strike e = rw e (tail, (refl, len, good))

  turn : (k : Card) (s : State) (t : Turn) → Holds m n k s → TurnInRange n t → Holds m n (feed k (call_of t) (accepted (answer m s t))) (after m s t)
  turn k s t h fair =
      subst (λ (z : State). Holds m n (feed k (call_of t) (accepted (answer m z t))) (after m z t)) (sym h.1.0) (turn_from k t h.0 h.1.2 h.1.1 fair)

  pub run_holds : (k : Card) (s : State) (ts : List Turn) → Holds m n k s → Run n ts → Holds m n (card_from m k s ts) (run m s ts)
  run_holds k s [] h fair = h
  run_holds k s (t ∷ ts) h fair = run_holds (feed k (call_of t) (accepted (answer m s t))) (after m s t) ts (turn k s t h fair.0) fair.1

pub run_card : (m : Meaning) (memory : Bytes) → length memory ≤ 65531 → (ts : List Turn) → Run (length memory) ts → Holds m (length memory) (card_of m (start memory) ts) (run m (start memory) ts)
run_card m memory small ts fair = run_holds m (length memory) small (level0 []) (start memory) ts (memory, (refl, refl, tt)) fair

-- ── how a page reads ──
module _ (m : Meaning) where
  abbrev Agree : List PageItem → Reading → Type 0
  Agree l r = Both (Reads (read_option m) page_action_item_attribute (read_page_item m)) l r × (counts r ≡ page_items_counts l)

  options_from : (l : List PageItem) → AllByRecursion (GoodPageItem m) l → (r : Reading) × (Both (Reads (read_option m) page_action_item_attribute (read_page_item m)) l r × (sum_of (λ o. length (actions_of o)) r ≡ sum_of (λ e. length (card_actions_in e)) l)
      × (sum_of (λ o. sum_of (λ (a : Action). sum_of options_in a.attributes) (actions_of o)) r ≡ sum_of (λ e. sum_of (λ (d : CardAction). sum_of options_of d.items) (card_actions_in e)) l))
  options_from [] h = ([], (tt, refl, refl))
  options_from (e ∷ l) h =
      let r = options_from l h.1 in
      (h.0.made ∷ r.0, ((h.0.reads, r.1.0), ap₂ ◌+◌ h.0.count-actions r.1.1, ap₂ ◌+◌ h.0.count-options r.1.2))

  all_writable : (l : List PageItem) → AllByRecursion (GoodPageItem m) l → AllByRecursion Writable (map page_action_item_attribute l)
  all_writable l h = all_mapped (GoodPageItem m) Writable page_action_item_attribute (λ e g. g.writable) l h

  pub page_reads : (l : List PageItem) → AllByRecursion (GoodPageItem m) l → length (page_items_bytes l) ≤ 65531 →
      (r : Reading) × ((read_filter m (page_items_bytes l) ≡ Ok r) × (page_items_reading m l ≡ Ok r) × (counts r ≡ page_items_counts l))
  page_reads l h small =
      let r = options_from l h in
      let inner : read_options m (page_items_bytes l) ≡ Ok r.0 =
      ap (each 1 (read_option m)) (walk_of_encode 0 (map page_action_item_attribute l) (all_writable l h)) ∙ found_reads 1 (read_option m) page_action_item_attribute (read_page_item m) l r.0 r.1.0 0 in
      let many = lengths (Reads (read_option m) page_action_item_attribute (read_page_item m)) l r.0 r.1.0 in (
        r.0,
        (
          ap (λ (t : Bool). cond t (Err (fault 1 0 1)) (read_options m (page_items_bytes l))) (le-ltb 65531 (length (page_items_bytes l)) small) ∙ inner,
          all-reads 1 (read_option m) page_action_item_attribute (read_page_item m) l r.0 r.1.0,
          (λ i. record { of_options = many i; of_actions = r.1.1 i; of_action_options = r.1.2 i }),
        ),
      )

  -- the reader stops at a head whose length field is 0
  stops : (n p c d : ℕ) (rest : Bytes) (l : List PageItem) → AllByRecursion (GoodPageItem m) l → length (page_items_bytes l) < n →
      each 1 (read_option m) (walk_in n p (page_items_bytes l ++ (0 ∷ 0 ∷ c ∷ d ∷ rest))) ≡ Err (fault 8 (p + length (page_items_bytes l)) 1)
  stops zero p c d rest l h fuel = absurd (omega arith)
  stops (suc n) p c d rest [] h fuel = rw (le-ltb (4 + length rest) 0 (omega arith), walk_in) (ap {B = Read Reading} (λ q. Err (fault 8 q 1)) (omega arith))
  stops (suc n) p c d rest (e ∷ l) h fuel =
      let a = page_action_item_attribute e in
      let Z : Bytes = 0 ∷ 0 ∷ c ∷ d ∷ rest in
      let p' = p + rounded (4 + length a.payload) in
      let size : length (encode a ++ page_items_bytes l) ≡ length (encode a) + length (page_items_bytes l) = length-append (encode a) (page_items_bytes l) in
      let one : length (encode a) ≡ rounded (4 + length a.payload) = length-encode a in
      let i : each 1 (read_option m) (walk_in n p' (page_items_bytes l ++ Z)) ≡ Err (fault 8 (p' + length (page_items_bytes l)) 1) = stops n p' c d rest l h.1 (omega arith) in
      let far : p' + length (page_items_bytes l) ≡ p + length (encode a ++ page_items_bytes l) = omega arith in
      ap (λ (b : Bytes). each 1 (read_option m) (walk_in (suc n) p b)) (append_assoc (encode a) (page_items_bytes l) Z)
      ∙ ap (each 1 (read_option m)) (step_over n p a (page_items_bytes l ++ Z) h.0.writable)
      ∙ ap (λ (z : Read FilterOption). z >>= λ o. each 1 (read_option m) (walk_in n p' (page_items_bytes l ++ Z)) >>= λ r. Ok (o ∷ r)) (h.0.reads.anywhere p)
      ∙ ap (λ (z : Read Reading). z >>= λ r. Ok (h.0.made ∷ r)) i
      ∙ ap {B = Read Reading} (λ q. Err (fault 8 q 1)) far

  stopped : (l : List PageItem) (v : ℕ) (rest : Bytes) → AllByRecursion (GoodPageItem m) l → length (page_items_bytes l ++ (head 0 v ++ rest)) ≤ 65531 → read_filter m (page_items_bytes l ++ (head 0 v ++ rest)) ≡ Err (fault 8 (length (page_items_bytes l)) 1)
  stopped l v rest h small =
      let B = page_items_bytes l ++ (head 0 v ++ rest) in
      let size : length B ≡ length (page_items_bytes l) + length (head 0 v ++ rest) = length-append (page_items_bytes l) (head 0 v ++ rest) in
      ap (λ (t : Bool). cond t (Err (fault 1 0 1)) (read_options m B)) (le-ltb 65531 (length B) small)
      ∙ stops (length B) 0 _ _ rest l h (omega arith)
      ∙ ap {B = Read Reading} (λ q. Err (fault 8 q 1)) (zero-add (length (page_items_bytes l)))

  told_card : (k : Card) → GoodCard m k → length (card_bytes k) ≤ 65531 → 0 < open_nests k → read_filter m (card_bytes k) ≡ Err (fault 8 (outermost k) 1)
  told_card (level0 l) good small h = absurd (omega arith)
  told_card (level1 l v ds) good small h = stopped l v (card_actions_bytes ds) good.0 small
  told_card (level2 l v ds u is) good small h =
      let e = append_assoc (page_items_bytes l) (head 0 v ++ card_actions_bytes ds) (head 0 u ++ action_items_bytes is) in
      ap (read_filter m) e ∙ stopped l v (card_actions_bytes ds ++ (head 0 u ++ action_items_bytes is)) good.0 (subst (λ (b : Bytes). length b ≤ 65531) e small)
  told_card (level3 l v ds u is o os) good small h =
      let X = head 0 u ++ action_items_bytes is in
      let Y = head 0 o ++ encode_all os in
      let e : ((page_items_bytes l ++ (head 0 v ++ card_actions_bytes ds)) ++ X) ++ Y ≡ page_items_bytes l ++ (head 0 v ++ (card_actions_bytes ds ++ (X ++ Y))) =
      append_assoc (page_items_bytes l ++ (head 0 v ++ card_actions_bytes ds)) X Y ∙ append_assoc (page_items_bytes l) (head 0 v ++ card_actions_bytes ds) (X ++ Y) in
      ap (read_filter m) e ∙ stopped l v (card_actions_bytes ds ++ (X ++ Y)) good.0 (subst (λ (b : Bytes). length b ≤ 65531) e small)

  told-closed : (k : Card) → GoodCard m k → length (card_bytes k) ≤ 65531 → open_nests k ≡ 0 → (r : Reading) × ((read_filter m (card_bytes k) ≡ Ok r) × (page_items_reading m (page_list k) ≡ Ok r) × (counts r ≡ page_items_counts (page_list k)))
  told-closed (level0 l) good small h = page_reads l good small
  told-closed (level1 l v ds) good small h = absurd (omega arith)
  told-closed (level2 l v ds u is) good small h = absurd (omega arith)
  told-closed (level3 l v ds u is o os) good small h = absurd (omega arith)

  nests_of : (k : Card) → length (heads_of k) ≡ open_nests k
  nests_of (level0 l) = refl
  nests_of (level1 l v ds) = refl
  nests_of (level2 l v ds u is) = refl
  nests_of (level3 l v ds u is o os) = refl

  told-state : (n : ℕ) → n ≤ 65531 → (k : Card) (tail : Bytes) → length (card_bytes k ++ tail) ≡ n → GoodCard m k → PageAgrees m (state_of n k tail) k
  told-state n small k tail len good =
      let same : page_bytes (state_of n k tail) ≡ card_bytes k = take_at (card_bytes k) tail (length (card_bytes k)) refl in
      let size : length (card_bytes k ++ tail) ≡ length (card_bytes k) + length tail = length-append (card_bytes k) tail in
      let short : length (card_bytes k) ≤ 65531 = omega arith in
      record {
        bytes = same;
        nests = nests_of k;
        closed = λ z. let r = told-closed k good short z in (r.0, (ap (read_filter m) same ∙ r.1.0, r.1.1, r.1.2));
        open_still = λ z. ap (read_filter m) same ∙ told_card k good short z;
      }

  pub page_agrees : (n : ℕ) → n ≤ 65531 → (k : Card) (s : State) → Holds m n k s → PageAgrees m s k
  page_agrees n small k s h = subst (λ (z : State). PageAgrees m z k) (sym h.1.0) (told-state n small k h.0 h.1.1 h.1.2)

pub page_is_its_card : PageIsItsCard
page_is_its_card m laws memory o small ts fair =
    page_agrees m (length memory) small (card_of m (start memory) ts) (run m (start memory) ts) (run_card m memory small ts fair)
