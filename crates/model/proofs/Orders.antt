-- One list of a page, in another order, reads as before in that order. Assumes nothing.
use Rattle.std.proofs.Common.{◌≡◌, ℕ, zero, suc, ◌+◌, ◌≤◌, Bool, true, false, eqb, List, [], ◌∷◌, ◌++◌, map, length, Ok, sym, refl, ap, ◌∙◌, subst, arith, length-append}
use Rattle.std.proofs.lemmas.List.{map-id, nil_from_length, take_at}
use Rattle.std.specs.List.{AllByRecursion}
use Rattle.model.specs.Numbers.{Bytes}
use Rattle.model.specs.Faults.{Read, ◌>>=◌}
use Rattle.model.specs.Attributes.{rounded, type_of, Attribute, attribute, Writable, encode, encode_all}
use Rattle.model.specs.Book.{Meaning}
use Rattle.model.specs.Reading.{text, as_read, the_kind, ActionAttribute, kind, options, index, stats, cookie, in_hw_count, other, Action, Reading, read_filter, FilterOption, class_id, hash, link, divisor, selector, police, actions, indev, pcnt, mark, flags, default}
use Rattle.model.specs.Counts.{options_in, actions_of, sum_of, counts}
use Rattle.model.specs.Runs.{run, start, page_bytes}
use Rattle.model.specs.Card.{ActionItem, CardAction, PageItem, Card, level0, action_item_attribute, action_items_bytes, card_action_attribute, card_actions_bytes, page_action_item_attribute, page_items_bytes}
use Rattle.model.specs.CardReading.{all, action_item_kinds, read_action_item, read_card_action, read_page_item, page_items_reading, card_actions_in, options_of, page_items_counts}
use Rattle.model.specs.Reordering.{swap, reorder, at, Spot, of_page, of_nest, of_action, of_options, in_page_item, in_action_item, in_card_action, page_items_reordered, in_actions, in_options, in_action, reading_reordered}
use Rattle.model.specs.Laws.{OrderIsFree}
use Rattle.model.proofs.Walk.{length-encode}
use Rattle.model.proofs.Each.{err-not-ok, ok_same, chain}
use Rattle.model.proofs.Cards.{Both, GoodActionItem, GoodCardAction, GoodPageItem, action-item-count, card_action_assembled, card_action_good_from, nest_good}
use Rattle.model.proofs.Steps.{Holds}
use Rattle.model.proofs.Runs.{run_card, page_reads}

-- ── lists ──
abbrev size_of : {A : Type 0} → (A → Attribute) → A → ℕ
size_of w a = length (encode (w a))

size-all : {A : Type 0} (w : A → Attribute) (l : List A) → length (encode_all (map w l)) ≡ sum_of (size_of w) l
size-all w [] = refl
size-all w (a ∷ l) = length-append (encode (w a)) (encode_all (map w l)) ∙ ap (λ n. length (encode (w a)) + n) (size-all w l)

to_both : {A B : Type 0} (g : B → Read A) (l : List B) (r : List A) → all g l ≡ Ok r → Both (λ b a. g b ≡ Ok a) l r
to_both g [] r q = subst (Both (λ b a. g b ≡ Ok a) []) (ok_same q) tt
to_both g (b ∷ l) r q =
    let f = chain (g b) (λ b. all g l >>= λ bs. Ok (b ∷ bs)) q in
    let d = chain (all g l) (λ bs. Ok (f.0 ∷ bs)) f.1.1 in
    subst (Both (λ b a. g b ≡ Ok a) (b ∷ l)) (ok_same d.1.1) (f.1.0, to_both g l d.0 d.1.0)

from_both : {A B : Type 0} (g : B → Read A) (l : List B) (r : List A) → Both (λ b a. g b ≡ Ok a) l r → all g l ≡ Ok r
from_both g [] [] z = refl
from_both g [] (a ∷ r) z = absurd z
from_both g (b ∷ l) [] z = absurd z
from_both g (b ∷ l) (a ∷ r) z = rw (z.0, from_both g l r z.1)

-- a change T of a list and T' of its reading that go together; c, d and e are what is counted
pub record Fine {A B : Type 0} (Q : B → A → Type 0) (Good : B → Type 0) (c d e : B → ℕ) (T : List B → List B) (T' : List A → List A) : Type 0 where
  pub good : (l : List B) → AllByRecursion Good l → AllByRecursion Good (T l)
  pub reads : (l : List B) (r : List A) → AllByRecursion Good l → Both Q l r → Both Q (T l) (T' r)
  pub many : (l : List B) → length (T l) ≡ length l
  pub sum_c : (l : List B) → sum_of c (T l) ≡ sum_of c l
  pub sum_d : (l : List B) → sum_of d (T l) ≡ sum_of d l
  pub sum_e : (l : List B) → sum_of e (T l) ≡ sum_of e l
  pub nil : T' [] ≡ []

-- the same of one element
pub record One {A B : Type 0} (Q : B → A → Type 0) (Good : B → Type 0) (c d e : B → ℕ) (F : B → B) (F' : A → A) : Type 0 where
  pub good : (b : B) → Good b → Good (F b)
  pub reads : (b : B) (a : A) → Good b → Q b a → Q (F b) (F' a)
  pub same_c : (b : B) → c (F b) ≡ c b
  pub same_d : (b : B) → d (F b) ≡ d b
  pub same_e : (b : B) → e (F b) ≡ e b

all-swap : {A : Type 0} (P : A → Type 0) (i : ℕ) (l : List A) → AllByRecursion P l → AllByRecursion P (swap i l)
all-swap P i [] h = tt
all-swap P i (a ∷ []) h = h
all-swap P zero (a ∷ b ∷ l) h = (h.1.0, (h.0, h.1.1))
all-swap P (suc i) (a ∷ b ∷ l) h = (h.0, all-swap P i (b ∷ l) h.1)

sum-swap : {A : Type 0} (c : A → ℕ) (i : ℕ) (l : List A) → sum_of c (swap i l) ≡ sum_of c l
sum-swap c i [] = refl
sum-swap c i (a ∷ []) = refl
sum-swap c zero (a ∷ b ∷ l) = omega arith
sum-swap c (suc i) (a ∷ b ∷ l) = ap (λ n. c a + n) (sum-swap c i (b ∷ l))

length-swap : {A : Type 0} (i : ℕ) (l : List A) → length (swap i l) ≡ length l
length-swap i [] = refl
length-swap i (a ∷ []) = refl
length-swap zero (a ∷ b ∷ l) = refl
length-swap (suc i) (a ∷ b ∷ l) = ap suc (length-swap i (b ∷ l))

both_swap : {A B : Type 0} (Q : B → A → Type 0) (i : ℕ) (l : List B) (r : List A) → Both Q l r → Both Q (swap i l) (swap i r)
both_swap Q i [] [] z = tt
both_swap Q i [] (a ∷ r) z = absurd z
both_swap Q i (b ∷ []) [] z = absurd z
both_swap Q i (b ∷ []) (a ∷ []) z = z
both_swap Q i (b ∷ []) (a ∷ a' ∷ r) z = absurd z.1
both_swap Q i (b ∷ b' ∷ l) [] z = absurd z
both_swap Q i (b ∷ b' ∷ l) (a ∷ []) z = absurd z.1
both_swap Q zero (b ∷ b' ∷ l) (a ∷ a' ∷ r) z = (z.1.0, (z.0, z.1.1))
both_swap Q (suc i) (b ∷ b' ∷ l) (a ∷ a' ∷ r) z = (z.0, both_swap Q i (b' ∷ l) (a' ∷ r) z.1)

module _ {A B : Type 0} (Q : B → A → Type 0) (Good : B → Type 0) (c d e : B → ℕ) where
  fine_none : Fine Q Good c d e (λ l. l) (λ r. r)
  fine_none = record { good = λ l h. h; reads = λ l r h z. z; many = λ l. refl; sum_c = λ l. refl; sum_d = λ l. refl; sum_e = λ l. refl; nil = refl }

  reorder_nil : (π : List ℕ) → reorder {A = A} π [] ≡ []
  reorder_nil [] = refl
  reorder_nil (i ∷ π) = reorder_nil π

  pub fine_reorder : (π : List ℕ) → Fine Q Good c d e (reorder π) (reorder π)
  fine_reorder [] = fine_none
  fine_reorder (i ∷ π) =
      let f = fine_reorder π in
      record {
        good = λ l h. f.good (swap i l) (all-swap Good i l h);
        reads = λ l r h z. f.reads (swap i l) (swap i r) (all-swap Good i l h) (both_swap Q i l r z);
        many = λ l. f.many (swap i l) ∙ length-swap i l;
        sum_c = λ l. f.sum_c (swap i l) ∙ sum-swap c i l;
        sum_d = λ l. f.sum_d (swap i l) ∙ sum-swap d i l;
        sum_e = λ l. f.sum_e (swap i l) ∙ sum-swap e i l;
        nil = f.nil;
      }

  module _ (F : B → B) (F' : A → A) (f : One Q Good c d e F F') where
    at_good : (i : ℕ) (l : List B) → AllByRecursion Good l → AllByRecursion Good (at i F l)
    at_good i [] h = tt
    at_good zero (b ∷ l) h = (f.good b h.0, h.1)
    at_good (suc i) (b ∷ l) h = (h.0, at_good i l h.1)

    at_reads : (i : ℕ) (l : List B) (r : List A) → AllByRecursion Good l → Both Q l r → Both Q (at i F l) (at i F' r)
    at_reads i [] [] h z = tt
    at_reads i [] (a ∷ r) h z = absurd z
    at_reads i (b ∷ l) [] h z = absurd z
    at_reads zero (b ∷ l) (a ∷ r) h z = (f.reads b a h.0 z.0, z.1)
    at_reads (suc i) (b ∷ l) (a ∷ r) h z = (z.0, at_reads i l r h.1 z.1)

    at_many : (i : ℕ) (l : List B) → length (at i F l) ≡ length l
    at_many i [] = refl
    at_many zero (b ∷ l) = refl
    at_many (suc i) (b ∷ l) = ap suc (at_many i l)

    at_sum : (c : B → ℕ) → ((b : B) → c (F b) ≡ c b) → (i : ℕ) (l : List B) → sum_of c (at i F l) ≡ sum_of c l
    at_sum c h i [] = refl
    at_sum c h zero (b ∷ l) = ap (λ n. n + sum_of c l) (h b)
    at_sum c h (suc i) (b ∷ l) = ap (λ n. c b + n) (at_sum c h i l)

    pub fine_at : (i : ℕ) → Fine Q Good c d e (at i F) (at i F')
    fine_at i = record {
      good = at_good i;
      reads = at_reads i;
      many = at_many i;
      sum_c = at_sum c f.same_c i;
      sum_d = at_sum d f.same_d i;
      sum_e = at_sum e f.same_e i;
      nil = refl;
    }

-- ── kind texts ──
-- what one item adds to the kind texts
own_of : (i : ActionItem) (l : List ActionItem) (ts : List Bytes) → action_item_kinds (i ∷ l) ≡ Ok ts →
    (own_fault : List Bytes) × (rest : List Bytes) × ((action_item_kinds l ≡ Ok rest) × (ts ≡ own_fault ++ rest) × ((l' : List ActionItem) (rest' : List Bytes) → action_item_kinds l' ≡ Ok rest' → action_item_kinds (i ∷ l') ≡ Ok (own_fault ++ rest')))
own_of (ActionItem.nest w os) l ts q = ([], ts, (q, refl, λ l' r e. e))
own_of (ActionItem.leaf a) l ts q = go (eqb (type_of a.word) 1) refl
  where
    Adds : List Bytes → List Bytes → Type 0
    Adds own_fault rest = (action_item_kinds l ≡ Ok rest) × (ts ≡ own_fault ++ rest) × ((l' : List ActionItem) (rest' : List Bytes) → action_item_kinds l' ≡ Ok rest' → action_item_kinds (ActionItem.leaf a ∷ l') ≡ Ok (own_fault ++ rest'))

    go : (t : Bool) → eqb (type_of a.word) 1 ≡ t → (own_fault : List Bytes) × (rest : List Bytes) × Adds own_fault rest
    go true e =
        let q' : (text 0 3 a.payload >>= (λ t. action_item_kinds l >>= λ ts. Ok (t ∷ ts))) ≡ Ok ts = rw (e, action_item_kinds) at q in
        let f = chain (text 0 3 a.payload) (λ t. action_item_kinds l >>= λ ts. Ok (t ∷ ts)) q' in
        let d = chain (action_item_kinds l) (λ ts. Ok (f.0 ∷ ts)) f.1.1 in
        (f.0 ∷ [], d.0, (d.1.0, sym (ok_same d.1.1), λ l' r z. added f.0 f.1.0 l' r z))
      where
        added : (t : Bytes) → text 0 3 a.payload ≡ Ok t → (l' : List ActionItem) (r : List Bytes) → action_item_kinds l' ≡ Ok r → action_item_kinds (ActionItem.leaf a ∷ l') ≡ Ok (t ∷ r)
        added t h l' r z = rw (e, action_item_kinds) (rw (h, z))
    go false e = ([], ts, (rw (e, action_item_kinds) at q, refl, λ l' r z. rw (e, action_item_kinds) z))

few : (x y z : List Bytes) → length (x ++ (y ++ z)) ≤ 1 → x ++ (y ++ z) ≡ y ++ (x ++ z)
few [] y z h = refl
few (a ∷ x) [] z h = refl
few (a ∷ x) (b ∷ y) z h = let e : length (x ++ (b ∷ (y ++ z))) ≡ length x + length (b ∷ (y ++ z)) = length-append x (b ∷ (y ++ z)) in absurd (omega arith)

kinds-swap : (i : ℕ) (l : List ActionItem) (ts : List Bytes) → length ts ≤ 1 → action_item_kinds l ≡ Ok ts → action_item_kinds (swap i l) ≡ Ok ts
kinds-swap i [] ts h q = q
kinds-swap i (a ∷ []) ts h q = q
kinds-swap zero (a ∷ b ∷ l) ts h q =
    let f = own_of a (b ∷ l) ts q in
    let g = own_of b l f.1 f.2.0 in
    let z = g.2.2 (a ∷ l) (f.0 ++ g.1) (f.2.2 l g.1 g.2.0) in
    let e : ts ≡ f.0 ++ (g.0 ++ g.1) = f.2.1 ∙ ap (λ (r : List Bytes). f.0 ++ r) g.2.1 in
    z ∙ ap {B = Read (List Bytes)} Ok (sym (few f.0 g.0 g.1 (subst (λ (r : List Bytes). length r ≤ 1) e h)) ∙ sym e)
kinds-swap (suc i) (a ∷ b ∷ l) ts h q =
    let f = own_of a (b ∷ l) ts q in
    let size : length (f.0 ++ f.1) ≡ length f.0 + length f.1 = length-append f.0 f.1 in
    let size' : length ts ≡ length (f.0 ++ f.1) = ap length f.2.1 in
    f.2.2 (swap i (b ∷ l)) f.1 (kinds-swap i (b ∷ l) f.1 (omega arith) f.2.0) ∙ ap {B = Read (List Bytes)} Ok (sym f.2.1)

Quiet : (List ActionItem → List ActionItem) → Type 0
Quiet T = (l : List ActionItem) (ts : List Bytes) → length ts ≤ 1 → action_item_kinds l ≡ Ok ts → action_item_kinds (T l) ≡ Ok ts

quiet_reorder : (π : List ℕ) → Quiet (reorder π)
unfolding Quiet
quiet_reorder [] l ts h q = q
quiet_reorder (i ∷ π) l ts h q = quiet_reorder π (swap i l) ts h (kinds-swap i l ts h q)

kinds-at : (T : List Attribute → List Attribute) (i : ℕ) (l : List ActionItem) (ts : List Bytes) → action_item_kinds l ≡ Ok ts → action_item_kinds (at i (in_action_item T) l) ≡ Ok ts
kinds-at T i [] ts q = q
kinds-at T zero (ActionItem.leaf a ∷ l) ts q = q
kinds-at T zero (ActionItem.nest w os ∷ l) ts q = q
kinds-at T (suc i) (a ∷ l) ts q =
    let f = own_of a l ts q in
    f.2.2 (at i (in_action_item T) l) f.1 (kinds-at T i l f.1 f.2.0) ∙ ap {B = Read (List Bytes)} Ok (sym f.2.1)

quiet_at : (T : List Attribute → List Attribute) (i : ℕ) → Quiet (at i (in_action_item T))
unfolding Quiet
quiet_at T i l ts h q = kinds-at T i l ts q

-- ── from one level to the next ──
size_id : (l : List Attribute) → length (encode_all l) ≡ sum_of (size_of (λ (a : Attribute). a)) l
size_id l = ap (λ (z : List Attribute). length (encode_all z)) (sym (map-id l)) ∙ size-all (λ (a : Attribute). a) l

size-encode : (w : ℕ) (x y : Bytes) → length x ≡ length y → length (encode (attribute w x)) ≡ length (encode (attribute w y))
size-encode w x y e = length-encode (attribute w x) ∙ ap (λ n. rounded (4 + n)) e ∙ sym (length-encode (attribute w y))

in_options_same : (T : List Attribute → List Attribute) → T [] ≡ [] → (a : ActionAttribute) → options_in a ≡ 0 → in_options T a ≡ a
in_options_same T e (kind t) h = refl
in_options_same T e (options l) h = let z : l ≡ [] = nil_from_length l h in ap {B = ActionAttribute} options (ap T z ∙ e ∙ sym z)
in_options_same T e (index n) h = refl
in_options_same T e (stats x) h = refl
in_options_same T e (cookie x) h = refl
in_options_same T e (in_hw_count n) h = refl
in_options_same T e (other w x) h = refl

in_actions_same : (T : List Action → List Action) → T [] ≡ [] → (o : FilterOption) → length (actions_of o) ≡ 0 → in_actions T o ≡ o
in_actions_same T e (class_id a b) h = refl
in_actions_same T e (hash n) h = refl
in_actions_same T e (link n) h = refl
in_actions_same T e (divisor n) h = refl
in_actions_same T e (selector s) h = refl
in_actions_same T e (police x) h = refl
in_actions_same T e (actions l) h = let z : l ≡ [] = nil_from_length l h in ap {B = FilterOption} actions (ap T z ∙ e ∙ sym z)
in_actions_same T e (indev x) h = refl
in_actions_same T e (pcnt x) h = refl
in_actions_same T e (mark x) h = refl
in_actions_same T e (flags n) h = refl
in_actions_same T e (default w x) h = refl

the_kind_is : (p : ℕ) (l : List Bytes) (k : Bytes) → the_kind p l ≡ Ok k → l ≡ k ∷ []
the_kind_is p [] k q = err-not-ok _ k q
the_kind_is p (t ∷ []) k q = ap (λ (u : Bytes). u ∷ []) (ok_same q)
the_kind_is p (t ∷ u ∷ l) k q = err-not-ok _ k q

abbrev nothing : Attribute → ℕ
nothing a = 0

abbrev card_action_options : CardAction → ℕ
card_action_options d = sum_of options_of d.items

abbrev page_item_actions : PageItem → ℕ
page_item_actions e = length (card_actions_in e)

abbrev page_item_options : PageItem → ℕ
page_item_options e = sum_of (λ (d : CardAction). sum_of options_of d.items) (card_actions_in e)

module _ (m : Meaning) where
  abbrev QO : Bytes → Attribute → Attribute → Type 0
  QO k o a = as_read 0 (m k o.word o.payload) ≡ Ok a

  abbrev QI : Bytes → ActionItem → ActionAttribute → Type 0
  QI k i a = read_action_item m k i ≡ Ok a

  abbrev QD : CardAction → Action → Type 0
  QD d a = read_card_action m d ≡ Ok a

  abbrev QE : PageItem → FilterOption → Type 0
  QE e o = read_page_item m e ≡ Ok o

  module _ (k : Bytes) (T T' : List Attribute → List Attribute) (f : Fine (QO k) Writable nothing nothing (size_of (λ (a : Attribute). a)) T T') where
    same_size : (os : List Attribute) → length (encode_all (T os)) ≡ length (encode_all os)
    same_size os = size_id (T os) ∙ f.sum_e os ∙ sym (size_id os)

    item_good : (i : ActionItem) → GoodActionItem i → GoodActionItem (in_action_item T i)
    item_good (ActionItem.leaf a) h = h
    item_good (ActionItem.nest w os) h = let e : length (encode_all (T os)) ≡ length (encode_all os) = same_size os in let s : length (encode_all os) ≤ 65531 = h.0.short in (record { word16 = h.0.word16; short = omega arith }, h.1, f.good os h.2)

    item-reads : (i : ActionItem) (a : ActionAttribute) → GoodActionItem i → QI k i a → QI k (in_action_item T i) (in_options T' a)
    item-reads (ActionItem.leaf b) a h q = q ∙ ap {B = Read ActionAttribute} Ok (sym (in_options_same T' f.nil a (action-item-count m k (ActionItem.leaf b) a h q)))
    item-reads (ActionItem.nest w os) a h q =
        let g : Attribute → Read Attribute = λ o. as_read 0 (m k o.word o.payload) in
        let d = chain (all g os) (λ l. Ok (options l)) q in
        let z = from_both g (T os) (T' d.0) (f.reads os d.0 h.2 (to_both g os d.0 d.1.0)) in
        ap (λ (r : Read (List Attribute)). r >>= λ l. Ok (options l)) z ∙ ap {B = Read ActionAttribute} (λ b. Ok (in_options T' b)) (ok_same d.1.1)

    item-options : (i : ActionItem) → options_of (in_action_item T i) ≡ options_of i
    item-options (ActionItem.leaf a) = refl
    item-options (ActionItem.nest w os) = f.many os

    item-size : (i : ActionItem) → size_of action_item_attribute (in_action_item T i) ≡ size_of action_item_attribute i
    item-size (ActionItem.leaf a) = refl
    item-size (ActionItem.nest w os) = size-encode w (encode_all (T os)) (encode_all os) (same_size os)

    item-one : One (QI k) GoodActionItem options_of options_of (size_of action_item_attribute) (in_action_item T) (in_options T')
    item-one = record { good = item_good; reads = item-reads; same_c = item-options; same_d = item-options; same_e = item-size }

  module _ (T : List ActionItem → List ActionItem) (T' : List ActionAttribute → List ActionAttribute) (f : (k : Bytes) → Fine (QI k) GoodActionItem options_of options_of (size_of action_item_attribute) T T') (quiet : Quiet T) where
    items-size : (l : List ActionItem) → length (action_items_bytes (T l)) ≡ length (action_items_bytes l)
    items-size l = size-all action_item_attribute (T l) ∙ (f []).sum_e l ∙ sym (size-all action_item_attribute l)

    record Parts (d : CardAction) (a : Action) : Type 0 where
      ts : List Bytes
      k : Bytes
      as' : List ActionAttribute
      texts : action_item_kinds d.items ≡ Ok ts
      only : the_kind 0 ts ≡ Ok k
      read : all (read_action_item m k) d.items ≡ Ok as'
      is : ◌≡◌ {A = Action} (record { tab = type_of d.word; kind_text = k; attributes = as' }) a

    parts_of : (d : CardAction) (a : Action) → QD d a → Parts d a
    parts_of d a q =
        let x = chain (action_item_kinds d.items) (λ ts. the_kind 0 ts >>= λ k. all (read_action_item m k) d.items >>= λ as'. Ok (record { tab = type_of d.word; kind_text = k; attributes = as' })) q in
        let y = chain (the_kind 0 x.0) (λ k. all (read_action_item m k) d.items >>= λ as'. Ok (record { tab = type_of d.word; kind_text = k; attributes = as' })) x.1.1 in
        let z = chain (all (read_action_item m y.0) d.items) (λ as'. Ok (record { tab = type_of d.word; kind_text = y.0; attributes = as' })) y.1.1 in
        record { ts = x.0; k = y.0; as' = z.0; texts = x.1.0; only = y.1.0; read = z.1.0; is = ok_same z.1.1 }

    parts_in : (d : CardAction) (a : Action) → AllByRecursion GoodActionItem d.items → Parts d a → Parts (in_card_action T d) (in_action T' a)
    unfolding Quiet
    parts_in d a good p =
        let one : p.ts ≡ p.k ∷ [] = the_kind_is 0 p.ts p.k p.only in
        let short : length p.ts ≤ 1 = subst (λ (l : List Bytes). length l ≤ 1) (sym one) (omega arith) in
        record {
          ts = p.ts;
          k = p.k;
          as' = T' p.as';
          texts = quiet d.items p.ts short p.texts;
          only = p.only;
          read = from_both (read_action_item m p.k) (T d.items) (T' p.as') ((f p.k).reads d.items p.as' good (to_both (read_action_item m p.k) d.items p.as' p.read));
          is = ap (in_action T') p.is;
        }

    card_action-reads : (d : CardAction) (a : Action) → GoodCardAction m d → QD d a → QD (in_card_action T d) (in_action T' a)
    card_action-reads d a h q =
        let p = parts_in d a h.good_items (parts_of d a q) in
        card_action_assembled m d.word (T d.items) p.ts p.k p.as' p.texts p.only p.read ∙ ap {B = Read Action} Ok p.is

    card_action_good' : (d : CardAction) → GoodCardAction m d → GoodCardAction m (in_card_action T d)
    card_action_good' d h =
        let p = parts_in d h.made h.good_items (parts_of d h.made h.reads.alone) in
        let e : length (action_items_bytes (T d.items)) ≡ length (action_items_bytes d.items) = items-size d.items in
        let s : length (action_items_bytes d.items) ≤ 65531 = h.writable.short in
        card_action_good_from m d.word (T d.items) p.ts p.k p.as' ((f []).good d.items h.good_items) (record { word16 = h.writable.word16; short = omega arith }) p.texts p.only p.read

    card_action-one : One QD (GoodCardAction m) card_action_options card_action_options (size_of card_action_attribute) (in_card_action T) (in_action T')
    card_action-one = record {
      good = card_action_good';
      reads = card_action-reads;
      same_c = λ d. (f []).sum_c d.items;
      same_d = λ d. (f []).sum_c d.items;
      same_e = λ d. size-encode d.word (action_items_bytes (T d.items)) (action_items_bytes d.items) (items-size d.items);
    }

  module _ (T : List CardAction → List CardAction) (T' : List Action → List Action) (f : Fine QD (GoodCardAction m) card_action_options card_action_options (size_of card_action_attribute) T T') where
    card_actions_size : (l : List CardAction) → length (card_actions_bytes (T l)) ≡ length (card_actions_bytes l)
    card_actions_size l = size-all card_action_attribute (T l) ∙ f.sum_e l ∙ sym (size-all card_action_attribute l)

    page_item_good : (e : PageItem) → GoodPageItem m e → GoodPageItem m (in_page_item T e)
    page_item_good (PageItem.leaf a) h = h
    page_item_good (PageItem.nest w ds) h =
        let e : length (card_actions_bytes (T ds)) ≡ length (card_actions_bytes ds) = card_actions_size ds in
        let s : length (card_actions_bytes ds) ≤ 65531 = h.writable.short in
        subst (λ (v : ℕ). GoodPageItem m (PageItem.nest v (T ds))) h.shape.0 (nest_good m (T ds) (f.good ds h.shape.1) (record { word16 = omega arith; short = omega arith }))

    page-item-reads : (e : PageItem) (o : FilterOption) → GoodPageItem m e → QE e o → QE (in_page_item T e) (in_actions T' o)
    page-item-reads (PageItem.leaf a) o h q =
        let same : h.made ≡ o = ok_same (sym h.reads.alone ∙ q) in
        q ∙ ap {B = Read FilterOption} Ok (sym (in_actions_same T' f.nil o (subst (λ (x : FilterOption). length (actions_of x) ≡ 0) same h.count-actions)))
    page-item-reads (PageItem.nest w ds) o h q =
        let d = chain (all (read_card_action m) ds) (λ l. Ok (actions l)) q in
        let z = from_both (read_card_action m) (T ds) (T' d.0) (f.reads ds d.0 h.shape.1 (to_both (read_card_action m) ds d.0 d.1.0)) in
        ap (λ (r : Read (List Action)). r >>= λ l. Ok (actions l)) z ∙ ap {B = Read FilterOption} (λ b. Ok (in_actions T' b)) (ok_same d.1.1)

    page_item_many : (e : PageItem) → page_item_actions (in_page_item T e) ≡ page_item_actions e
    page_item_many (PageItem.leaf a) = refl
    page_item_many (PageItem.nest w ds) = f.many ds

    page-item-sum : (e : PageItem) → page_item_options (in_page_item T e) ≡ page_item_options e
    page-item-sum (PageItem.leaf a) = refl
    page-item-sum (PageItem.nest w ds) = f.sum_c ds

    page-item-size : (e : PageItem) → size_of page_action_item_attribute (in_page_item T e) ≡ size_of page_action_item_attribute e
    page-item-size (PageItem.leaf a) = refl
    page-item-size (PageItem.nest w ds) = size-encode w (card_actions_bytes (T ds)) (card_actions_bytes ds) (card_actions_size ds)

    page-item-one : One QE (GoodPageItem m) page_item_actions page_item_options (size_of page_action_item_attribute) (in_page_item T) (in_actions T')
    page-item-one = record { good = page_item_good; reads = page-item-reads; same_c = page_item_many; same_d = page-item-sum; same_e = page-item-size }

  -- ── every spot ──
  page_items_fine : (spot : Spot) (π : List ℕ) → Fine QE (GoodPageItem m) page_item_actions page_item_options (size_of page_action_item_attribute) (page_items_reordered spot π) (reading_reordered spot π)
  page_items_fine of_page π = fine_reorder QE (GoodPageItem m) page_item_actions page_item_options (size_of page_action_item_attribute) π
  page_items_fine (of_nest i) π =
      fine_at QE (GoodPageItem m) page_item_actions page_item_options (size_of page_action_item_attribute) (in_page_item (reorder π)) (in_actions (reorder π))
      (page-item-one (reorder π) (reorder π) (fine_reorder QD (GoodCardAction m) card_action_options card_action_options (size_of card_action_attribute) π)) i
  page_items_fine (of_action i j) π =
      fine_at QE (GoodPageItem m) page_item_actions page_item_options (size_of page_action_item_attribute) (in_page_item (at j (in_card_action (reorder π)))) (in_actions (at j (in_action (reorder π))))
      (page-item-one (at j (in_card_action (reorder π))) (at j (in_action (reorder π)))
      (fine_at QD (GoodCardAction m) card_action_options card_action_options (size_of card_action_attribute) (in_card_action (reorder π)) (in_action (reorder π))
      (card_action-one (reorder π) (reorder π) (λ k. fine_reorder (QI k) GoodActionItem options_of options_of (size_of action_item_attribute) π) (quiet_reorder π)) j)) i
  page_items_fine (of_options i j n) π =
      fine_at QE (GoodPageItem m) page_item_actions page_item_options (size_of page_action_item_attribute) (in_page_item (at j (in_card_action (at n (in_action_item (reorder π)))))) (in_actions (at j (in_action (at n (in_options (reorder π))))))
      (page-item-one (at j (in_card_action (at n (in_action_item (reorder π))))) (at j (in_action (at n (in_options (reorder π)))))
      (fine_at QD (GoodCardAction m) card_action_options card_action_options (size_of card_action_attribute) (in_card_action (at n (in_action_item (reorder π)))) (in_action (at n (in_options (reorder π))))
      (card_action-one (at n (in_action_item (reorder π))) (at n (in_options (reorder π)))
      (λ k. fine_at (QI k) GoodActionItem options_of options_of (size_of action_item_attribute) (in_action_item (reorder π)) (in_options (reorder π))
      (item-one k (reorder π) (reorder π) (fine_reorder (QO k) Writable nothing nothing (size_of (λ (a : Attribute). a)) π)) n)
      (quiet_at (reorder π) n)) j)) i

  order_of : (l : List PageItem) → AllByRecursion (GoodPageItem m) l → length (page_items_bytes l) ≤ 65531 → (spot : Spot) (π : List ℕ) (r : Reading) → read_filter m (page_items_bytes l) ≡ Ok r →
      (read_filter m (page_items_bytes (page_items_reordered spot π l)) ≡ Ok (reading_reordered spot π r)) × (counts (reading_reordered spot π r) ≡ counts r)
  order_of l good small spot π r q =
      let f = page_items_fine spot π in
      let l' = page_items_reordered spot π l in
      let size : length (page_items_bytes l') ≡ length (page_items_bytes l) = size-all page_action_item_attribute l' ∙ f.sum_e l ∙ sym (size-all page_action_item_attribute l) in
      let a = page_reads m l good small in
      let b = page_reads m l' (f.good l good) (omega arith) in
      let was : a.0 ≡ r = ok_same (sym a.1.0 ∙ q) in
      let read : page_items_reading m l ≡ Ok r = a.1.1 ∙ ap {B = Read Reading} Ok was in
      let turned : page_items_reading m l' ≡ Ok (reading_reordered spot π r) = from_both (read_page_item m) l' (reading_reordered spot π r) (f.reads l r good (to_both (read_page_item m) l r read)) in
      let same : b.0 ≡ reading_reordered spot π r = ok_same (sym b.1.1 ∙ turned) in
      let all_counts : page_items_counts l' ≡ page_items_counts l = λ i. record { of_options = f.many l i; of_actions = f.sum_c l i; of_action_options = f.sum_d l i } in
      (b.1.0 ∙ ap {B = Read Reading} Ok same, ap counts (sym same) ∙ b.1.2 ∙ all_counts ∙ sym a.1.2 ∙ ap counts was)

pub order_is_free : OrderIsFree
order_is_free m laws memory o small ts fair l is spot π r q =
    let h = run_card m memory small ts fair in
    let n = length memory in
    let k : Holds m n (level0 l) (run m (start memory) ts) = subst (λ (c : Card). Holds m n c (run m (start memory) ts)) is h in
    let bytes : page_bytes (run m (start memory) ts) ≡ page_items_bytes l = ap page_bytes k.1.0 ∙ take_at (page_items_bytes l) k.0 (length (page_items_bytes l)) refl in
    let size : length (page_items_bytes l ++ k.0) ≡ length (page_items_bytes l) + length k.0 = length-append (page_items_bytes l) k.0 in
    let len : length (page_items_bytes l ++ k.0) ≡ n = k.1.1 in
    order_of m l k.1.2 (omega arith) spot π r (ap (read_filter m) (sym bytes) ∙ q)
