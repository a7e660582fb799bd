-- Each call keeps the page and its card together. Assumes nothing.
use Rattle.std.proofs.Common.{◌≡◌, ℕ, ◌+◌, ◌-◌, ◌<◌, ◌≤◌, Bool, true, false, not, eqb, ltb, List, [], ◌∷◌, ◌++◌, map, length, take, drop, Ok, Err, sym, refl, ap, ◌∙◌, subst, ap₂, append_assoc, arith, length-append, length-drop, ltb-false, eqb-true}
use borrow.Author.Tests.{eqb-false}
use Rattle.std.proofs.ByRecursion.{All-push}
use Rattle.std.proofs.lemmas.List.{append-nil, take_at, drop_at, drop-drop}
use Rattle.std.proofs.lemmas.Bool.{not-true}
use Rattle.std.specs.List.{AllByRecursion}
use Rattle.model.specs.Numbers.{Bytes, le_bytes, part}
use Rattle.model.specs.Faults.{Read, ◌>>=◌, FaultNumbers}
use Rattle.model.specs.Attributes.{rounded, type_of, Attribute, attribute, Writable, head, encode, encode_all}
use Rattle.model.specs.Book.{Meaning}
use Rattle.model.specs.Reading.{read_action, read_attribute, read_option}
use Rattle.model.specs.Page.{Page, Call, put, open_nest, close, strike, InRange, check, only_fault, over, verdict, page_after, memory_after, State, state}
use Rattle.model.specs.Card.{ActionItem, PageItem, card_action, Card, level0, level1, level2, level3, feed, action_item_attribute, action_items_bytes, card_action_attribute, card_actions_bytes, page_action_item_attribute, page_items_bytes, card_bytes}
use Rattle.model.proofs.Walk.{length-encode}
use Rattle.model.proofs.Each.{err-not-ok, chain}
use Rattle.model.proofs.Cards.{GoodActionItem, GoodCardAction, GoodPageItem, card_action_good, leaf_good, nest_good}

-- ── bytes ──
pub encode_snoc : {A : Type 0} (f : A → Attribute) (l : List A) (b : A) → encode_all (map f (l ++ b ∷ [])) ≡ encode_all (map f l) ++ encode (f b)
encode_snoc f [] b = append-nil (encode (f b))
encode_snoc f (a ∷ l) b = ap (λ (r : Bytes). encode (f a) ++ r) (encode_snoc f l b) ∙ sym (append_assoc (encode (f a)) (encode_all (map f l)) (encode (f b)))

encode_push : (l : List Attribute) (b : Attribute) → encode_all (l ++ b ∷ []) ≡ encode_all l ++ encode b
encode_push [] b = append-nil (encode b)
encode_push (a ∷ l) b = ap (λ (r : Bytes). encode a ++ r) (encode_push l b) ∙ sym (append_assoc (encode a) (encode_all l) (encode b))

-- one more at the end of what stands behind P and H
inside : (P H I J X : Bytes) → J ≡ I ++ X → P ++ (H ++ J) ≡ (P ++ (H ++ I)) ++ X
inside P H I J X e = ap (λ (r : Bytes). P ++ (H ++ r)) e ∙ ap (λ (r : Bytes). P ++ r) (sym (append_assoc H I X)) ∙ sym (append_assoc P (H ++ I) X)

pub rounded-all : (l : List Attribute) → rounded (length (encode_all l)) ≡ length (encode_all l)
rounded-all [] = refl
rounded-all (a ∷ l) =
    let i : rounded (length (encode_all l)) ≡ length (encode_all l) = rounded-all l in
    let e : length (encode a ++ encode_all l) ≡ length (encode a) + length (encode_all l) = length-append (encode a) (encode_all l) in
    let o : length (encode a) ≡ rounded (4 + length a.payload) = length-encode a in
    let j : length (encode a ++ encode_all l) ≡ rounded (4 + length a.payload) + length (encode_all l) = e ∙ ap (λ k. k + length (encode_all l)) o in
    omega arith

-- a payload of whole fours has no padding
whole : (v : ℕ) (I : Bytes) → rounded (length I) ≡ length I → encode (attribute v I) ≡ head (4 + length I) v ++ I
whole v I e =
    let none : rounded (length I) - length I ≡ 0 = omega arith in
    ap (λ (k : ℕ). head (4 + length I) v ++ (I ++ lib.ListN.replicate k 0)) none ∙ ap (λ (r : Bytes). head (4 + length I) v ++ r) (append-nil I)

-- bytes written at the end of A
over_end : (A X tail : Bytes) → over (A ++ tail) (length A) X ≡ (A ++ X) ++ drop (length X) tail
over_end A X tail =
    let f : take (length A) (A ++ tail) ≡ A = take_at A tail (length A) refl in
    let g : drop (length A + length X) (A ++ tail) ≡ drop (length X) tail = sym (drop-drop (length X) (length A) (A ++ tail)) ∙ ap (drop (length X)) (drop_at A tail (length A) refl) in
    ap₂ (λ (p q : Bytes). p ++ (X ++ q)) f g ∙ sym (append_assoc A X (drop (length X) tail))

-- a length field written in the head behind A
over-head : (A I tail : Bytes) (v n : ℕ) → n ≡ 4 + length I → over ((A ++ (head 0 v ++ I)) ++ tail) (length A) (le_bytes 2 n) ≡ (A ++ (head (4 + length I) v ++ I)) ++ tail
over-head A I tail v n e =
    let re : (A ++ (head 0 v ++ I)) ++ tail ≡ A ++ ((head 0 v ++ I) ++ tail) = append_assoc A (head 0 v ++ I) tail in
    ap (λ (r : Bytes). over r (length A) (le_bytes 2 n)) re
    ∙ over_end A (le_bytes 2 n) ((head 0 v ++ I) ++ tail)
    ∙ append_assoc A (le_bytes 2 n) (le_bytes 2 v ++ (I ++ tail))
    ∙ ap (λ (k : ℕ). A ++ (le_bytes 2 k ++ (le_bytes 2 v ++ (I ++ tail)))) e
    ∙ sym (append_assoc A (head (4 + length I) v ++ I) tail)

-- what stands behind the head behind A
pub behind : (A I tail : Bytes) (v : ℕ) → part (length A + 4) (length (A ++ (head 0 v ++ I)) - (length A + 4)) ((A ++ (head 0 v ++ I)) ++ tail) ≡ I
behind A I tail v =
    let size : length (A ++ (head 0 v ++ I)) ≡ length A + length (head 0 v ++ I) = length-append A (head 0 v ++ I) in
    let re : (A ++ (head 0 v ++ I)) ++ tail ≡ (A ++ head 0 v) ++ (I ++ tail) = append_assoc A (head 0 v ++ I) tail ∙ sym (append_assoc A (head 0 v) (I ++ tail)) in
    let d : drop (length A + 4) ((A ++ (head 0 v ++ I)) ++ tail) ≡ I ++ tail = ap (drop (length A + 4)) re ∙ drop_at (A ++ head 0 v) (I ++ tail) (length A + 4) (length-append A (head 0 v)) in
    let k : length I ≡ length (A ++ (head 0 v ++ I)) - (length A + 4) = omega arith in
    ap (take (length (A ++ (head 0 v ++ I)) - (length A + 4))) d ∙ take_at I tail _ k

-- ── the page of a card ──
abbrev pub heads_of : Card → List ℕ
heads_of (level0 l) = []
heads_of (level1 l v ds) = length (page_items_bytes l) ∷ []
heads_of (level2 l v ds u is) = length (page_items_bytes l ++ (head 0 v ++ card_actions_bytes ds)) ∷ length (page_items_bytes l) ∷ []
heads_of (level3 l v ds u is o os) = length ((page_items_bytes l ++ (head 0 v ++ card_actions_bytes ds)) ++ (head 0 u ++ action_items_bytes is)) ∷ length (page_items_bytes l ++ (head 0 v ++ card_actions_bytes ds)) ∷ length (page_items_bytes l) ∷ []

abbrev pub page_of : ℕ → Card → Page
page_of n k = record { size = n; used = length (card_bytes k); heads = heads_of k }

abbrev pub state_of : ℕ → Card → Bytes → State
state_of n k tail = state (page_of n k) (card_bytes k ++ tail)

state_path : (n : ℕ) {u u' : ℕ} (h : List ℕ) {b b' : Bytes} → u ≡ u' → b ≡ b' → state (record { size = n; used = u; heads = h }) b ≡ state (record { size = n; used = u'; heads = h }) b'
state_path n h e f = λ i. record { page = record { size = n; used = e i; heads = h }; memory = f i }

module _ (m : Meaning) where
  abbrev pub GoodCard : Card → Type 0
  GoodCard (level0 l) = AllByRecursion (GoodPageItem m) l
  GoodCard (level1 l v ds) = AllByRecursion (GoodPageItem m) l × (7 ≡ v) × AllByRecursion (GoodCardAction m) ds
  GoodCard (level2 l v ds u is) = AllByRecursion (GoodPageItem m) l × (7 ≡ v) × AllByRecursion (GoodCardAction m) ds × (u < 65536) × AllByRecursion GoodActionItem is
  GoodCard (level3 l v ds u is o os) = AllByRecursion (GoodPageItem m) l × (7 ≡ v) × AllByRecursion (GoodCardAction m) ds × (u < 65536) × AllByRecursion GoodActionItem is × (0x8002 ≡ o) × AllByRecursion Writable os

  -- the state is that of a good card, with memory of n bytes
  abbrev pub Holds : ℕ → Card → State → Type 0
  Holds n k s = (tail : Bytes) × ((s ≡ state_of n k tail) × (length (card_bytes k ++ tail) ≡ n) × GoodCard k)

checked : {A : Type 0} (b : Bool) (e : FaultNumbers) (f : Unit {0} → Read A) {z : A} → (check b e >>= f) ≡ Ok z → (b ≡ true) × (f tt ≡ Ok z)
checked true e f q = (refl, q)
checked false e f {z} q = err-not-ok e z q

checked_last : (b : Bool) (e : FaultNumbers) → check b e ≡ Ok tt → b ≡ true
checked_last true e q = refl
checked_last false e q = err-not-ok e tt q

only_ok : {A : Type 0} (r : Read A) → only_fault r ≡ Ok tt → (a : A) × (r ≡ Ok a)
only_ok (Ok a) q = (a, refl)
only_ok (Err e) q = err-not-ok e tt q

-- ── the card grows by X, and so do the page's bytes ──
grown : (m : Meaning) (n : ℕ) (k k' : Card) (X tail : Bytes) (used : ℕ) → card_bytes k' ≡ card_bytes k ++ X → used ≡ length (card_bytes k) + length X →
    length (card_bytes k ++ tail) ≡ n → length X ≤ n - length (card_bytes k) → GoodCard m k' →
    Holds m n k' (state (record { size = n; used = used; heads = heads_of k' }) (over (card_bytes k ++ tail) (length (card_bytes k)) X))
grown m n k k' X tail used e u len room good =
    let A = card_bytes k in
    let la : length (A ++ tail) ≡ length A + length tail = length-append A tail in
    let lx : length (A ++ X) ≡ length A + length X = length-append A X in
    let mem : over (A ++ tail) (length A) X ≡ card_bytes k' ++ drop (length X) tail = over_end A X tail ∙ ap (λ (r : Bytes). r ++ drop (length X) tail) (sym e) in
    let ld : length (drop (length X) tail) ≡ length tail - length X = length-drop (length X) tail in
    let lw : length ((A ++ X) ++ drop (length X) tail) ≡ length (A ++ X) + length (drop (length X) tail) = length-append (A ++ X) (drop (length X) tail) in
    let all : length ((A ++ X) ++ drop (length X) tail) ≡ n = omega arith in (
      drop (length X) tail,
      (
        state_path n (heads_of k') (u ∙ sym lx ∙ ap length (sym e)) mem,
        ap (λ (r : Bytes). length (r ++ drop (length X) tail)) e ∙ all,
        good,
      ),
    )

-- a nest is closed: k is k₀ with a head and I behind it, and k' has the attribute there
closed : (m : Meaning) (n : ℕ) (k' : Card) (A I tail : Bytes) (v : ℕ) → rounded (length I) ≡ length I → card_bytes k' ≡ A ++ encode (attribute v I) →
    length ((A ++ (head 0 v ++ I)) ++ tail) ≡ n → GoodCard m k' →
    Holds m n k' (state (record { size = n; used = length (A ++ (head 0 v ++ I)); heads = heads_of k' }) (over ((A ++ (head 0 v ++ I)) ++ tail) (length A) (le_bytes 2 (length (A ++ (head 0 v ++ I)) - length A))))
closed m n k' A I tail v fours e len good =
    let size : length (A ++ (head 0 v ++ I)) ≡ length A + length (head 0 v ++ I) = length-append A (head 0 v ++ I) in
    let size' : length (A ++ (head (4 + length I) v ++ I)) ≡ length A + length (head (4 + length I) v ++ I) = length-append A (head (4 + length I) v ++ I) in
    let far : length (A ++ (head 0 v ++ I)) - length A ≡ 4 + length I = omega arith in
    let e' : card_bytes k' ≡ A ++ (head (4 + length I) v ++ I) = e ∙ ap (λ (r : Bytes). A ++ r) (whole v I fours) in
    let mem = over-head A I tail v (length (A ++ (head 0 v ++ I)) - length A) far ∙ ap (λ (r : Bytes). r ++ tail) (sym e') in
    let same : length (A ++ (head 0 v ++ I)) ≡ length (A ++ (head (4 + length I) v ++ I)) = omega arith in
    let l₁ : length ((A ++ (head 0 v ++ I)) ++ tail) ≡ length (A ++ (head 0 v ++ I)) + length tail = length-append (A ++ (head 0 v ++ I)) tail in
    let l₂ : length ((A ++ (head (4 + length I) v ++ I)) ++ tail) ≡ length (A ++ (head (4 + length I) v ++ I)) + length tail = length-append (A ++ (head (4 + length I) v ++ I)) tail in
    let all : length ((A ++ (head (4 + length I) v ++ I)) ++ tail) ≡ n = omega arith in
    (tail, (state_path n (heads_of k') (same ∙ ap length (sym e')) mem, ap (λ (r : Bytes). length (r ++ tail)) e' ∙ all, good))

-- a nest is struck
struck : (m : Meaning) (n : ℕ) (k' : Card) (X tail : Bytes) → length ((card_bytes k' ++ X) ++ tail) ≡ n → GoodCard m k' →
    Holds m n k' (state (page_of n k') ((card_bytes k' ++ X) ++ tail))
struck m n k' X tail len good =
    (X ++ tail, (state_path n (heads_of k') refl (append_assoc (card_bytes k') X tail), ap length (sym (append_assoc (card_bytes k') X tail)) ∙ len, good))

-- ── what an accepted call needed ──
abbrev Free : ℕ → Card → ℕ → Type 0
Free n k need = need ≤ n - length (card_bytes k)

free_from : (n : ℕ) (k : Card) (need : ℕ) (e : FaultNumbers) → check (not (ltb (n - length (card_bytes k)) need)) e ≡ Ok tt → Free n k need
free_from n k need e q = ltb-false (n - length (card_bytes k)) need (not-true (ltb (n - length (card_bytes k)) need) (checked_last (not (ltb (n - length (card_bytes k)) need)) e q))

pub put-length : (w : ℕ) (x : Bytes) → length (encode (attribute w x)) ≡ 4 + rounded (length x)
put-length w x = let h : length (encode (attribute w x)) ≡ rounded (4 + length x) = length-encode (attribute w x) in omega arith

put_writable : (n : ℕ) (k : Card) (w : ℕ) (x : Bytes) → n ≤ 65531 → w < 65536 → Free n k (4 + rounded (length x)) → Writable (attribute w x)
put_writable n k w x small hw room = record { word16 = hw; short = omega arith }

put_grown : (m : Meaning) (n : ℕ) (k k' : Card) (w : ℕ) (x tail : Bytes) → card_bytes k' ≡ card_bytes k ++ encode (attribute w x) → length (card_bytes k ++ tail) ≡ n → Free n k (4 + rounded (length x)) → GoodCard m k' →
    Holds m n k' (state (record { size = n; used = length (card_bytes k) + (4 + rounded (length x)); heads = heads_of k' }) (over (card_bytes k ++ tail) (length (card_bytes k)) (encode (attribute w x))))
put_grown m n k k' w x tail e len room good =
    let p : length (encode (attribute w x)) ≡ 4 + rounded (length x) = put-length w x in
    grown m n k k' (encode (attribute w x)) tail (length (card_bytes k) + (4 + rounded (length x))) e (ap (λ j. length (card_bytes k) + j) (sym p)) len (omega arith) good

open_grown : (m : Meaning) (n : ℕ) (k k' : Card) (w : ℕ) (tail : Bytes) → card_bytes k' ≡ card_bytes k ++ head 0 w → length (card_bytes k ++ tail) ≡ n → Free n k 4 → GoodCard m k' →
    Holds m n k' (state (record { size = n; used = length (card_bytes k) + 4; heads = heads_of k' }) (over (card_bytes k ++ tail) (length (card_bytes k)) (head 0 w)))
open_grown m n k k' w tail e len room good = grown m n k k' (head 0 w) tail (length (card_bytes k) + 4) e refl len room good

inner_short : (A I tail : Bytes) (v n : ℕ) → length ((A ++ (head 0 v ++ I)) ++ tail) ≡ n → n ≤ 65531 → length I ≤ 65531
inner_short A I tail v n len small =
    let l₁ : length ((A ++ (head 0 v ++ I)) ++ tail) ≡ length (A ++ (head 0 v ++ I)) + length tail = length-append (A ++ (head 0 v ++ I)) tail in
    let l₂ : length (A ++ (head 0 v ++ I)) ≡ length A + length (head 0 v ++ I) = length-append A (head 0 v ++ I) in
    omega arith

not_eq : (a b : ℕ) → not (eqb a b) ≡ true → ¬ (a ≡ b)
not_eq a b e = eqb-false a b (not-true (eqb a b) e)

small_type : (t : ℕ) → not (ltb 16383 t) ≡ true → t < 65536
small_type t e = let h : t ≤ 16383 = ltb-false 16383 t (not-true (ltb 16383 t) e) in omega arith

module _ (m : Meaning) (n : ℕ) (small : n ≤ 65531) where
  pub step : (k : Card) (c : Call) (tail : Bytes) → GoodCard m k → length (card_bytes k ++ tail) ≡ n → InRange c → verdict m (page_of n k) (card_bytes k ++ tail) c ≡ Ok tt →
      Holds m n (feed k c true) (state (page_after (page_of n k) c) (memory_after (page_of n k) (card_bytes k ++ tail) c))
  step (level0 l) (put w x) tail good len in-range q =
      let k = level0 l in
      let a = checked (eqb (length (card_bytes k ++ tail)) n) _ _ q in
      let b = checked (not (eqb (type_of w) 7)) _ _ a.1 in
      let c = chain (only_fault (read_option m (length (card_bytes k)) w x)) _ b.1 in
      let r = only_ok (read_option m (length (card_bytes k)) w x) c.1.0 in
      let room = free_from n k (4 + rounded (length x)) _ c.1.1 in
      let ok = put_writable n k w x small in-range.0 room in
      put_grown m n k (level0 (l ++ PageItem.leaf (attribute w x) ∷ [])) w x tail (encode_snoc page_action_item_attribute l (PageItem.leaf (attribute w x))) len room
      (All-push (GoodPageItem m) l (PageItem.leaf (attribute w x)) good (leaf_good m (length (card_bytes k)) (attribute w x) r.0 ok (not_eq (type_of w) 7 b.0) r.1))
  step (level1 l v ds) (put w x) tail good len in-range q =
      let a = checked (eqb (length (card_bytes (level1 l v ds) ++ tail)) n) _ _ q in err-not-ok _ tt a.1
  step (level2 l v ds u is) (put w x) tail good len in-range q =
      let k = level2 l v ds u is in
      let a = checked (eqb (length (card_bytes k ++ tail)) n) _ _ q in
      let b = checked (not (eqb (type_of w) 2)) _ _ a.1 in
      let c = chain (only_fault (read_attribute m [] (length (card_bytes k)) w x)) _ b.1 in
      let room = free_from n k (4 + rounded (length x)) _ c.1.1 in
      let ok = put_writable n k w x small in-range.0 room in
      put_grown m n k (level2 l v ds u (is ++ ActionItem.leaf (attribute w x) ∷ [])) w x tail
      (inside (page_items_bytes l ++ (head 0 v ++ card_actions_bytes ds)) (head 0 u) (action_items_bytes is) _ (encode (attribute w x)) (encode_snoc action_item_attribute is (ActionItem.leaf (attribute w x)))) len room
      (good.0, good.1, good.2, good.3, All-push GoodActionItem is (ActionItem.leaf (attribute w x)) good.4 (ok, not_eq (type_of w) 2 b.0))
  step (level3 l v ds u is o os) (put w x) tail good len in-range q =
      let k = level3 l v ds u is o os in
      let a = checked (eqb (length (card_bytes k ++ tail)) n) _ _ q in
      let room = free_from n k (4 + rounded (length x)) _ a.1 in
      let ok = put_writable n k w x small in-range.0 room in
      put_grown m n k (level3 l v ds u is o (os ++ attribute w x ∷ [])) w x tail
      (inside ((page_items_bytes l ++ (head 0 v ++ card_actions_bytes ds)) ++ (head 0 u ++ action_items_bytes is)) (head 0 o) (encode_all os) _ (encode (attribute w x)) (encode_push os (attribute w x))) len room
      (good.0, good.1, good.2, good.3, good.4, good.5, All-push Writable os (attribute w x) good.6 ok)
  step (level0 l) (open_nest t) tail good len in-range q =
      let k = level0 l in
      let a = checked (eqb (length (card_bytes k ++ tail)) n) _ _ q in
      let b = checked (not (ltb 16383 t)) _ _ a.1 in
      let c = checked (eqb t 7) _ _ b.1 in
      let room = free_from n k 4 _ c.1 in
      open_grown m n k (level1 l t []) t tail refl len room (good, sym (eqb-true t 7 c.0), tt)
  step (level1 l v ds) (open_nest t) tail good len in-range q =
      let k = level1 l v ds in
      let a = checked (eqb (length (card_bytes k ++ tail)) n) _ _ q in
      let b = checked (not (ltb 16383 t)) _ _ a.1 in
      let room = free_from n k 4 _ b.1 in
      open_grown m n k (level2 l v ds t []) t tail refl len room (good.0, good.1, good.2, small_type t b.0, tt)
  step (level2 l v ds u is) (open_nest t) tail good len in-range q =
      let k = level2 l v ds u is in
      let a = checked (eqb (length (card_bytes k ++ tail)) n) _ _ q in
      let b = checked (not (ltb 16383 t)) _ _ a.1 in
      let c = checked (eqb t 2) _ _ b.1 in
      let room = free_from n k 4 _ c.1 in
      open_grown m n k (level3 l v ds u is (0x8000 + t) []) (0x8000 + t) tail refl len room (good.0, good.1, good.2, good.3, good.4, ap (λ j. 0x8000 + j) (sym (eqb-true t 2 c.0)), tt)
  step (level3 l v ds u is o os) (open_nest t) tail good len in-range q =
      let a = checked (eqb (length (card_bytes (level3 l v ds u is o os) ++ tail)) n) _ _ q in
      let b = checked (not (ltb 16383 t)) _ _ a.1 in err-not-ok _ tt b.1
  step (level0 l) close tail good len in-range q =
      let a = checked (eqb (length (card_bytes (level0 l) ++ tail)) n) _ _ q in err-not-ok _ tt a.1
  step (level1 l v ds) close tail good len in-range q =
      let I = card_actions_bytes ds in
      let short : length I ≤ 65531 = inner_short (page_items_bytes l) I tail v n len small in
      closed m n (level0 (l ++ PageItem.nest v ds ∷ [])) (page_items_bytes l) I tail v (rounded-all (map card_action_attribute ds)) (encode_snoc page_action_item_attribute l (PageItem.nest v ds)) len
      (All-push (GoodPageItem m) l (PageItem.nest v ds) good.0 (subst (λ (w : ℕ). GoodPageItem m (PageItem.nest w ds)) good.1 (nest_good m ds good.2 (record { word16 = omega arith; short = short }))))
  step (level2 l v ds u is) close tail good len in-range q =
      let k = level2 l v ds u is in
      let A = page_items_bytes l ++ (head 0 v ++ card_actions_bytes ds) in
      let I = action_items_bytes is in
      let short : length I ≤ 65531 = inner_short A I tail u n len small in
      let a = checked (eqb (length (card_bytes k ++ tail)) n) _ _ q in
      let r = only_ok (read_action m (length A) 0 (part (length A + 4) (length (A ++ (head 0 u ++ I)) - (length A + 4)) ((A ++ (head 0 u ++ I)) ++ tail))) a.1 in
      let read : read_action m (length A) 0 I ≡ Ok r.0 = ap (read_action m (length A) 0) (sym (behind A I tail u)) ∙ r.1 in
      closed m n (level1 l v (ds ++ card_action u is ∷ [])) A I tail u (rounded-all (map action_item_attribute is))
      (inside (page_items_bytes l) (head 0 v) (card_actions_bytes ds) _ (encode (attribute u I)) (encode_snoc card_action_attribute ds (card_action u is))) len
      (good.0, good.1, All-push (GoodCardAction m) ds (card_action u is) good.2 (card_action_good m u (length A) is r.0 good.4 (record { word16 = good.3; short = short }) read))
  step (level3 l v ds u is o os) close tail good len in-range q =
      let A = (page_items_bytes l ++ (head 0 v ++ card_actions_bytes ds)) ++ (head 0 u ++ action_items_bytes is) in
      let I = encode_all os in
      let short : length I ≤ 65531 = inner_short A I tail o n len small in
      let word : 0x8002 ≡ o = good.5 in
      closed m n (level2 l v ds u (is ++ ActionItem.nest o os ∷ [])) A I tail o (rounded-all os)
      (inside (page_items_bytes l ++ (head 0 v ++ card_actions_bytes ds)) (head 0 u) (action_items_bytes is) _ (encode (attribute o I)) (encode_snoc action_item_attribute is (ActionItem.nest o os))) len
      (good.0, good.1, good.2, good.3, All-push GoodActionItem is (ActionItem.nest o os) good.4 (record { word16 = omega arith; short = short }, word, good.6))
  step (level0 l) strike tail good len in-range q =
      let a = checked (eqb (length (card_bytes (level0 l) ++ tail)) n) _ _ q in err-not-ok _ tt a.1
  step (level1 l v ds) strike tail good len in-range q = struck m n (level0 l) (head 0 v ++ card_actions_bytes ds) tail len good.0
  step (level2 l v ds u is) strike tail good len in-range q = struck m n (level1 l v ds) (head 0 u ++ action_items_bytes is) tail len (good.0, good.1, good.2)
  step (level3 l v ds u is o os) strike tail good len in-range q = struck m n (level2 l v ds u is) (head 0 o ++ encode_all os) tail len (good.0, good.1, good.2, good.3, good.4)
