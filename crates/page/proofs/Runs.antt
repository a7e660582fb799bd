-- Runs of the code's turns: one turn after the other, and what the laws of the page say of them. Assumes nothing.
use Rattle.std.proofs.Common.{◌≡◌, ℕ, ◌+◌, ◌<◌, ◌≤◌, Bool, true, false, cond, List, [], ◌∷◌, map, length, get_or, drop, Err, sym, refl, ap, ◌∙◌, subst, ap₂}
use Rattle.std.proofs.lemmas.List.{at_drop_more}
use Rattle.std.proofs.lemmas.Bool.{ne_eqb}
use Rattle.model.specs.Numbers.{Bytes, Octets}
use Rattle.model.specs.Faults.{Read}
use Rattle.model.specs.Book.{Meaning, BookLaws}
use Rattle.model.specs.Page.{Page, Call, put, open_nest, close, strike, State, state, accepted, own_fault, verdict, page_after, memory_after}
use Rattle.model.specs.Runs.{Turn, with_own_memory, with_other_memory, Run, call_of, lent, answer, after, run, start}
use Rattle.model.specs.Card.{Card, level0, feed, card_from, card_of}
use Rattle.model.specs.Laws.{PageAgrees}
use Rattle.model.proofs.Runs.{page_is_its_card}
use Rattle.model.proofs.Orders.{order_is_free}
use Rattle.page.specs.declared.turn.Turn as code-turns
use Rattle.page.specs.Steps.{Outcome, outcome, turned}
use Rattle.page.specs.Turns.{turn_meant, turns_meant, Fair, AllFair, Reorders}

-- ── a page keeps its size ──
after_strike : (g : Page) (h : List ℕ) → (elim h as (λ _. Page) [ [] ↦ g | p ∷ outer ↦ record { size = g.size; used = p; heads = outer } ]).size ≡ g.size
after_strike g [] = refl
after_strike g (p ∷ outer) = refl

after_call : (g : Page) (c : Call) → (page_after g c).size ≡ g.size
after_call g (put w x) = refl
after_call g (open_nest t) = refl
after_call g close = refl
after_call g strike = after_strike g g.heads

pub size-kept : (m : Meaning) (s : State) (t : Turn) → (after m s t).page.size ≡ s.page.size
size-kept m s t = by (accepted (answer m s t))
  where
    by : (b : Bool) → (cond b (state (page_after s.page (call_of t)) (memory_after s.page (lent s t) (call_of t))) s).page.size ≡ s.page.size
    by true = after_call s.page (call_of t)
    by false = refl

-- ── other memory is refused, whatever the call ──
module _ (m : Meaning) (s : State) (bs : Bytes) (other : ¬ (length bs ≡ s.page.size)) where
  refuses : (c : Call) → verdict m s.page bs c ≡ Err (own_fault s.page 2 0)
  refuses (put w x) = let e = ne_eqb (length bs) s.page.size other in rw e
  refuses (open_nest t) = let e = ne_eqb (length bs) s.page.size other in rw e
  refuses close = let e = ne_eqb (length bs) s.page.size other in rw e
  refuses strike = let e = ne_eqb (length bs) s.page.size other in rw e

  stays : (c : Call) → after m s (with_other_memory bs c) ≡ s
  stays c = ap (λ (r : Read (Unit {0})). cond (accepted r) (state (page_after s.page c) (memory_after s.page bs c)) s) (refuses c)

  unfed : (k : Card) (c : Call) → feed k c (accepted (answer m s (with_other_memory bs c))) ≡ k
  unfed k c = ap (λ (r : Read (Unit {0})). feed k c (accepted r)) (refuses c)

-- so it may be any call, as a strike
abbrev calm : Turn → Turn
calm (with_own_memory c) = with_own_memory c
calm (with_other_memory bs c) = with_other_memory bs strike

calm_run : (n : ℕ) (ts : List Turn) → AllFair n ts → Run n (map calm ts)
calm_run n [] h = tt
calm_run n (with_own_memory c ∷ ts) h = (h.0, calm_run n ts h.1)
calm_run n (with_other_memory bs c ∷ ts) h = ((tt, h.0), calm_run n ts h.1)

module _ (m : Meaning) (n : ℕ) where
  same_run : (s : State) (ts : List Turn) → s.page.size ≡ n → AllFair n ts → run m s (map calm ts) ≡ run m s ts
  same_run s [] e h = refl
  same_run s (with_own_memory c ∷ ts) e h = same_run (after m s (with_own_memory c)) ts (size-kept m s (with_own_memory c) ∙ e) h.1
  same_run s (with_other_memory bs c ∷ ts) e h =
      let other : ¬ (length bs ≡ s.page.size) = λ q. h.0 (q ∙ e) in
      ap (λ (z : State). run m z (map calm ts)) (stays m s bs other strike) ∙ same_run s ts e h.1 ∙ ap (λ (z : State). run m z ts) (sym (stays m s bs other c))

  same_card : (k : Card) (s : State) (ts : List Turn) → s.page.size ≡ n → AllFair n ts → card_from m k s (map calm ts) ≡ card_from m k s ts
  same_card k s [] e h = refl
  same_card k s (with_own_memory c ∷ ts) e h = same_card (feed k c (accepted (answer m s (with_own_memory c)))) (after m s (with_own_memory c)) ts (size-kept m s (with_own_memory c) ∙ e) h.1
  same_card k s (with_other_memory bs c ∷ ts) e h =
      let other : ¬ (length bs ≡ s.page.size) = λ q. h.0 (q ∙ e) in
      ap₂ (λ (j : Card) (z : State). card_from m j z (map calm ts)) (unfed m s bs other k strike) (stays m s bs other strike)
      ∙ same_card k s ts e h.1
      ∙ ap₂ (λ (j : Card) (z : State). card_from m j z ts) (sym (unfed m s bs other k c)) (sym (stays m s bs other c))

-- ── the laws, for a run that the code made ──
module _ (m : Meaning) (laws : BookLaws m) (memory : Bytes) (o : Octets memory) (small : length memory ≤ 65531) (ts : List Turn) (fair : AllFair (length memory) ts) (s : State) (left : s ≡ run m (start memory) ts) where
  is_run : run m (start memory) (map calm ts) ≡ s
  is_run = same_run m (length memory) (start memory) ts refl fair ∙ sym left

  is_card : card_of m (start memory) (map calm ts) ≡ card_of m (start memory) ts
  is_card = same_card m (length memory) (level0 []) (start memory) ts refl fair

  pub run_agrees : PageAgrees m s (card_of m (start memory) ts)
  run_agrees =
      subst (λ (k : Card). PageAgrees m s k) is_card
      (subst (λ (z : State). PageAgrees m z (card_of m (start memory) (map calm ts))) is_run (page_is_its_card m laws memory o small (map calm ts) (calm_run (length memory) ts fair)))

  pub run_reorders : Reorders m s (card_of m (start memory) ts)
  run_reorders =
      subst (λ (k : Card). Reorders m s k) is_card
      (subst (λ (z : State). Reorders m z (card_of m (start memory) (map calm ts))) is_run (order_is_free m laws memory o small (map calm ts) (calm_run (length memory) ts fair)))

-- ── turn by turn ──
module _ (m : Meaning) (n : ℕ) (ts : List code-turns.Turn) (i : ℕ) (d : code-turns.Turn) (h : i < length ts) (s s' : State) (size : s.page.size ≡ n)
    (r : Read (Unit {0})) (e : outcome r s' ≡ turned m s (turn_meant s.page.size (get_or ts i d))) where
  moved : s' ≡ after m s (turn_meant n (get_or ts i d))
  moved = ap (λ (q : Outcome). q.after) e ∙ ap (λ (k : ℕ). after m s (turn_meant k (get_or ts i d))) size

  pub run_more : (t : State) → run m s (turns_meant n (drop i ts)) ≡ t → run m s' (turns_meant n (drop (i + 1) ts)) ≡ t
  run_more t inv = ap (λ (z : State). run m z (turns_meant n (drop (i + 1) ts))) moved ∙ sym (at_drop_more (λ xs. run m s (turns_meant n xs)) ts i d h) ∙ inv

  pub size-more : s'.page.size ≡ n
  size-more = ap (λ (z : State). z.page.size) moved ∙ size-kept m s (turn_meant n (get_or ts i d)) ∙ size

  pub fair_more : Fair s.page.size (turn_meant s.page.size (get_or ts i d)) → (AllFair n (turns_meant n (drop i ts)) → AllFair n (turns_meant n ts)) →
      AllFair n (turns_meant n (drop (i + 1) ts)) → AllFair n (turns_meant n ts)
  fair_more f inv rest =
      inv (subst (λ (xs : List code-turns.Turn). AllFair n (turns_meant n xs)) (sym (at_drop_more (λ xs. xs) ts i d h)) (subst (λ (k : ℕ). Fair k (turn_meant k (get_or ts i d))) size f, rest))
