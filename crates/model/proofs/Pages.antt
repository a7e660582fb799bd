-- Every filter that reads is, as it is written, the page of a run. Assumes nothing.
use Rattle.std.proofs.Common.{◌≡◌, ℕ, zero, suc, ◌+◌, ◌-◌, ◌*◌, ◌<◌, ◌≤◌, true, false, cond, eqb, ltb, List, [], ◌∷◌, ◌++◌, map, length, get_or, Ok, sym, refl, ap, ◌∙◌, subst, append_assoc, arith, length-append, le-ltb, eq-eqb, ne_eqb}
use Rattle.std.proofs.lemmas.List.{append-nil, take_at, map-id}
use Rattle.std.specs.List.{flat_map, AllByRecursion}
use Rattle.model.specs.Numbers.{Bytes, Octets, part}
use Rattle.model.specs.Faults.{Read, ◌>>=◌}
use Rattle.model.specs.Attributes.{rounded, type_of, Attribute, attribute, Writable, head, encode, encode_all}
use Rattle.model.specs.Walk.{walk}
use Rattle.model.specs.Records.{Key, key}
use Rattle.model.specs.Selector.{Selector}
use Rattle.model.specs.Book.{Meaning, BookLaws}
use Rattle.model.specs.Reading.{each, kinds, the_kind, AttributeForm, attribute_forms, read_as, ActionAttribute, kind, options, index, stats, cookie, in_hw_count, other, Action, read_attribute, read_action, read_filter, Reading, read_option, FilterOption, class_id, hash, link, divisor, selector, police, actions, indev, pcnt, mark, flags, default}
use Rattle.model.specs.Writing.{write_attribute, write_action, write_option, written}
use Rattle.model.specs.Page.{Call, put, open_nest, close, InRange, verdict, State, state, accepted, page_after, memory_after, level}
use Rattle.model.specs.Runs.{Turn, with_own_memory, Run, after, run, start, page_bytes}
use Rattle.model.specs.Card.{ActionItem, CardAction, PageItem, card_action, Card, level0, level1, level2, level3, feed, action_item_attribute, action_items_bytes, card_action_attribute, card_actions_bytes, page_action_item_attribute, page_items_bytes, card_bytes}
use Rattle.model.specs.Building.{put_of, attribute_turns, action_turns, option_turns, reading_turns}
use Rattle.model.specs.Laws.{EveryFilterIsAPage}
use Rattle.model.specs.Selector as selectors
use Rattle.model.proofs.Each.{octets_append, octets_bytes, chain}
use Rattle.model.proofs.Cards.{assembled}
use Rattle.model.proofs.Placeless.{action_placeless}
use Rattle.model.proofs.ActionAttributes.{Steady}
use Rattle.model.proofs.Actions.{SteadyAction, action_again, all_short, all_both}
use Rattle.model.proofs.RoundTrip.{SteadyOption, all_steady, read_inside}
use Rattle.model.proofs.Steps.{page_of, state_of, GoodCard, Holds, step, behind, put-length, rounded-all}

-- ── the card that the calls fill ──
abbrev attribute_action_item : ActionAttribute → ActionItem
attribute_action_item (kind t) = ActionItem.leaf (write_attribute (kind t))
attribute_action_item (options l) = ActionItem.nest 0x8002 l
attribute_action_item (index n) = ActionItem.leaf (write_attribute (index n))
attribute_action_item (stats x) = ActionItem.leaf (write_attribute (stats x))
attribute_action_item (cookie x) = ActionItem.leaf (write_attribute (cookie x))
attribute_action_item (in_hw_count n) = ActionItem.leaf (write_attribute (in_hw_count n))
attribute_action_item (other w x) = ActionItem.leaf (write_attribute (other w x))

abbrev action_card_action : Action → CardAction
action_card_action a = card_action a.tab (map attribute_action_item a.attributes)

abbrev option_page_item : FilterOption → PageItem
option_page_item (class_id a b) = PageItem.leaf (write_option (class_id a b))
option_page_item (hash n) = PageItem.leaf (write_option (hash n))
option_page_item (link n) = PageItem.leaf (write_option (link n))
option_page_item (divisor n) = PageItem.leaf (write_option (divisor n))
option_page_item (selector s) = PageItem.leaf (write_option (selector s))
option_page_item (police x) = PageItem.leaf (write_option (police x))
option_page_item (actions l) = PageItem.nest 7 (map action_card_action l)
option_page_item (indev x) = PageItem.leaf (write_option (indev x))
option_page_item (pcnt x) = PageItem.leaf (write_option (pcnt x))
option_page_item (mark x) = PageItem.leaf (write_option (mark x))
option_page_item (flags n) = PageItem.leaf (write_option (flags n))
option_page_item (default w x) = PageItem.leaf (write_option (default w x))

-- the card's attributes are those written
item_same : (a : ActionAttribute) → action_item_attribute (attribute_action_item a) ≡ write_attribute a
item_same (kind t) = refl
item_same (options l) = refl
item_same (index n) = refl
item_same (stats x) = refl
item_same (cookie x) = refl
item_same (in_hw_count n) = refl
item_same (other w x) = refl

map_same : {A B C : Type 0} (f : B → C) (g : A → B) (h : A → C) → ((a : A) → f (g a) ≡ h a) → (l : List A) → map f (map g l) ≡ map h l
map_same f g h e [] = refl
map_same f g h e (a ∷ l) = λ i. e a i ∷ map_same f g h e l i

items_same : (l : List ActionAttribute) → action_items_bytes (map attribute_action_item l) ≡ encode_all (map write_attribute l)
items_same l = ap encode_all (map_same action_item_attribute attribute_action_item write_attribute item_same l)

card_action_same : (a : Action) → card_action_attribute (action_card_action a) ≡ write_action a
card_action_same a = ap (attribute a.tab) (items_same a.attributes)

card_actions_same : (l : List Action) → card_actions_bytes (map action_card_action l) ≡ encode_all (map write_action l)
card_actions_same l = ap encode_all (map_same card_action_attribute action_card_action write_action card_action_same l)

page_item_same : (o : FilterOption) → page_action_item_attribute (option_page_item o) ≡ write_option o
page_item_same (class_id a b) = refl
page_item_same (hash n) = refl
page_item_same (link n) = refl
page_item_same (divisor n) = refl
page_item_same (selector s) = refl
page_item_same (police x) = refl
page_item_same (actions l) = ap (attribute 7) (card_actions_same l)
page_item_same (indev x) = refl
page_item_same (pcnt x) = refl
page_item_same (mark x) = refl
page_item_same (flags n) = refl
page_item_same (default w x) = refl

page_items_same : (r : Reading) → page_items_bytes (map option_page_item r) ≡ written r
page_items_same r = ap encode_all (map_same page_action_item_attribute option_page_item write_option page_item_same r)

-- ── runs that are accepted ──
run-append : (m : Meaning) (s : State) (ts us : List Turn) → run m s (ts ++ us) ≡ run m (run m s ts) us
run-append m s [] us = refl
run-append m s (t ∷ ts) us = run-append m (after m s t) ts us

run_both : (n : ℕ) (ts us : List Turn) → Run n ts → Run n us → Run n (ts ++ us)
run_both n [] us f g = g
run_both n (t ∷ ts) us f g = (f.0, run_both n ts us f.1 g)

module _ (m : Meaning) (n : ℕ) (small : n ≤ 65531) where
  -- from the card k, with so many bytes free, the turns lead to the card k' and use just those bytes
  pub record Reach (k : Card) (ts : List Turn) (need : ℕ) (k' : Card) : Type 0 where
    pub fair : Run n ts
    pub there : (s : State) → Holds m n k s → length (card_bytes k) + need ≤ n → Holds m n k' (run m s ts)
    pub size : length (card_bytes k) + need ≤ n → (s : State) → Holds m n k s → length (card_bytes k') ≡ length (card_bytes k) + need

  reach-none : (k : Card) → Reach k [] 0 k
  reach-none k = record { fair = tt; there = λ s h r. h; size = λ r s h. omega arith }

  then : {k k' k'' : Card} {ts us : List Turn} {a b : ℕ} → Reach k ts a k' → Reach k' us b k'' → Reach k (ts ++ us) (a + b) k''
  then {k} {k'} {k''} {ts} {us} {a} {b} f g = record {
    fair = run_both n ts us f.fair g.fair;
    there = λ s h r.
        let r₁ : length (card_bytes k) + a ≤ n = omega arith in
        let e : length (card_bytes k') ≡ length (card_bytes k) + a = f.size r₁ s h in
        subst (Holds m n k'') (sym (run-append m s ts us)) (g.there (run m s ts) (f.there s h r₁) (omega arith));
    size = λ r s h.
        let r₁ : length (card_bytes k) + a ≤ n = omega arith in
        let e : length (card_bytes k') ≡ length (card_bytes k) + a = f.size r₁ s h in
        let e' : length (card_bytes k'') ≡ length (card_bytes k') + b = g.size (omega arith) (run m s ts) (f.there s h r₁) in
        omega arith;
  }

  -- one call, where it is accepted
  one : (k : Card) (c : Call) (need : ℕ) → InRange c → (page_after (page_of n k) c).used ≡ length (card_bytes k) + need →
      ((tail : Bytes) → length (card_bytes k ++ tail) ≡ n → GoodCard m k → length (card_bytes k) + need ≤ n → verdict m (page_of n k) (card_bytes k ++ tail) c ≡ Ok tt) →
      Reach k (with_own_memory c ∷ []) need (feed k c true)
  one k c need in-range used ok = record { fair = (in-range, tt); there = go; size = λ r s h. sized r s h }
    where
      made : (tail : Bytes) → length (card_bytes k ++ tail) ≡ n → GoodCard m k → length (card_bytes k) + need ≤ n → after m (state_of n k tail) (with_own_memory c) ≡ state (page_after (page_of n k) c) (memory_after (page_of n k) (card_bytes k ++ tail) c)
      made tail len good r = ap (λ (v : Read (Unit {0})). cond (accepted v) (state (page_after (page_of n k) c) (memory_after (page_of n k) (card_bytes k ++ tail) c)) (state_of n k tail)) (ok tail len good r)

      go : (s : State) → Holds m n k s → length (card_bytes k) + need ≤ n → Holds m n (feed k c true) (after m s (with_own_memory c))
      go s h r =
          subst (λ (z : State). Holds m n (feed k c true) (after m z (with_own_memory c))) (sym h.1.0)
          (subst (Holds m n (feed k c true)) (sym (made h.0 h.1.1 h.1.2 r)) (step m n small k c h.0 h.1.2 h.1.1 in-range (ok h.0 h.1.1 h.1.2 r)))

      sized : length (card_bytes k) + need ≤ n → (s : State) → Holds m n k s → length (card_bytes (feed k c true)) ≡ length (card_bytes k) + need
      sized r s h =
          let d = step m n small k c h.0 h.1.2 h.1.1 in-range (ok h.0 h.1.1 h.1.2 r) in
          sym (ap (λ (z : State). z.page.used) d.1.0) ∙ used

  home : (k : Card) (tail : Bytes) → length (card_bytes k ++ tail) ≡ n → eqb (length (card_bytes k ++ tail)) n ≡ true
  home k tail len = eq-eqb (length (card_bytes k ++ tail)) n len

  room : (k : Card) (need : ℕ) → length (card_bytes k) + need ≤ n → ltb (n - length (card_bytes k)) need ≡ false
  room k need r = le-ltb (n - length (card_bytes k)) need (omega arith)

  put0 : (l : List PageItem) (w : ℕ) (x : Bytes) (o : FilterOption) → w < 65536 → Octets x → ¬ (type_of w ≡ 7) → ((p : ℕ) → read_option m p w x ≡ Ok o) →
      Reach (level0 l) (with_own_memory (put w x) ∷ []) (4 + rounded (length x)) (level0 (l ++ PageItem.leaf (attribute w x) ∷ []))
  put0 l w x o hw ox no7 reads = one (level0 l) (put w x) (4 + rounded (length x)) (hw, ox) refl
      (λ tail len good r. rw (home (level0 l) tail len, ne_eqb (type_of w) 7 no7, reads (length (page_items_bytes l)), room (level0 l) (4 + rounded (length x)) r))

  put2 : (l : List PageItem) (v : ℕ) (ds : List CardAction) (u : ℕ) (is : List ActionItem) (w : ℕ) (x : Bytes) (a : ActionAttribute) → w < 65536 → Octets x → ¬ (type_of w ≡ 2) → ((p : ℕ) → read_attribute m [] p w x ≡ Ok a) →
      Reach (level2 l v ds u is) (with_own_memory (put w x) ∷ []) (4 + rounded (length x)) (level2 l v ds u (is ++ ActionItem.leaf (attribute w x) ∷ []))
  put2 l v ds u is w x a hw ox no2 reads = let k = level2 l v ds u is in one k (put w x) (4 + rounded (length x)) (hw, ox) refl
      (λ tail len good r. rw (home k tail len, ne_eqb (type_of w) 2 no2, reads (length (card_bytes k)), room k (4 + rounded (length x)) r))

  put3 : (l : List PageItem) (v : ℕ) (ds : List CardAction) (u : ℕ) (is : List ActionItem) (o : ℕ) (os : List Attribute) (w : ℕ) (x : Bytes) → w < 65536 → Octets x →
      Reach (level3 l v ds u is o os) (with_own_memory (put w x) ∷ []) (4 + rounded (length x)) (level3 l v ds u is o (os ++ attribute w x ∷ []))
  put3 l v ds u is o os w x hw ox = let k = level3 l v ds u is o os in one k (put w x) (4 + rounded (length x)) (hw, ox) refl
      (λ tail len good r. rw (home k tail len, room k (4 + rounded (length x)) r))

  open0 : (l : List PageItem) → Reach (level0 l) (with_own_memory (open_nest 7) ∷ []) 4 (level1 l 7 [])
  open0 l = let k = level0 l in one k (open_nest 7) 4 (omega arith) refl (λ tail len good r. rw (home k tail len, room k 4 r))

  open1 : (l : List PageItem) (v : ℕ) (ds : List CardAction) (t : ℕ) → t < 16384 → Reach (level1 l v ds) (with_own_memory (open_nest t) ∷ []) 4 (level2 l v ds t [])
  open1 l v ds t ht = let k = level1 l v ds in one k (open_nest t) 4 (omega arith) refl (λ tail len good r. rw (home k tail len, le-ltb 16383 t (omega arith), room k 4 r))

  open2 : (l : List PageItem) (v : ℕ) (ds : List CardAction) (u : ℕ) (is : List ActionItem) → Reach (level2 l v ds u is) (with_own_memory (open_nest 2) ∷ []) 4 (level3 l v ds u is 0x8002 [])
  open2 l v ds u is = let k = level2 l v ds u is in one k (open_nest 2) 4 (omega arith) refl (λ tail len good r. rw (home k tail len, room k 4 r))

  close1 : (l : List PageItem) (v : ℕ) (ds : List CardAction) → Reach (level1 l v ds) (with_own_memory close ∷ []) 0 (level0 (l ++ PageItem.nest v ds ∷ []))
  close1 l v ds = let k = level1 l v ds in one k close 0 tt (omega arith) (λ tail len good r. rw (home k tail len))

  close2 : (l : List PageItem) (v : ℕ) (ds : List CardAction) (u : ℕ) (is : List ActionItem) (a : Action) → ((p : ℕ) → read_action m p 0 (action_items_bytes is) ≡ Ok a) →
      Reach (level2 l v ds u is) (with_own_memory close ∷ []) 0 (level1 l v (ds ++ card_action u is ∷ []))
  close2 l v ds u is a reads =
      let k = level2 l v ds u is in
      let A = page_items_bytes l ++ (head 0 v ++ card_actions_bytes ds) in
      one k close 0 tt (omega arith) (λ tail len good r.
      let there : read_action m (length A) 0 (part (length A + 4) (length (A ++ (head 0 u ++ action_items_bytes is)) - (length A + 4)) ((A ++ (head 0 u ++ action_items_bytes is)) ++ tail)) ≡ Ok a =
      ap (read_action m (length A) 0) (behind A (action_items_bytes is) tail u) ∙ reads (length A) in
      rw (home k tail len, there))

  close3 : (l : List PageItem) (v : ℕ) (ds : List CardAction) (u : ℕ) (is : List ActionItem) (o : ℕ) (os : List Attribute) → Reach (level3 l v ds u is o os) (with_own_memory close ∷ []) 0 (level2 l v ds u (is ++ ActionItem.nest o os ∷ []))
  close3 l v ds u is o os = let k = level3 l v ds u is o os in one k close 0 tt (omega arith) (λ tail len good r. rw (home k tail len))

  as_need : {k : Card} {ts : List Turn} {a b : ℕ} {k' k'' : Card} → a ≡ b → k' ≡ k'' → Reach k ts a k' → Reach k ts b k''
  as_need {k} {ts} {a} {b} {k'} {k''} e f r = subst (λ (j : Card). Reach k ts b j) f (subst (λ (c : ℕ). Reach k ts c k') e r)

  -- one list, element by element
  reach_list : {A X : Type 0} (K : List X → Card) (turns : A → List Turn) (w : A → Attribute) (it : A → X) (P : A → Type 0) →
      ((xs : List X) (a : A) → P a → Reach (K xs) (turns a) (length (encode (w a))) (K (xs ++ it a ∷ []))) →
      (l : List A) → AllByRecursion P l → (xs : List X) → Reach (K xs) (flat_map turns l) (length (encode_all (map w l))) (K (xs ++ map it l))
  reach_list K turns w it P h [] ok xs = as_need refl (ap K (sym (append-nil xs))) (reach-none (K xs))
  reach_list K turns w it P h (a ∷ l) ok xs =
      as_need (sym (length-append (encode (w a)) (encode_all (map w l)))) (ap K (append_assoc xs (it a ∷ []) (map it l)))
      (then (h xs a ok.0) (reach_list K turns w it P h l ok.1 (xs ++ it a ∷ [])))

-- ── of an attribute that is no nest of options the kind is not asked ──
kind_free : (m : Meaning) (k : Bytes) (p w : ℕ) (x : Bytes) (t : ℕ) → ¬ (t ≡ 2) → read_as m (get_or attribute_forms t AttributeForm.as_default) [] p w x ≡ read_as m (get_or attribute_forms t AttributeForm.as_default) k p w x
kind_free m k p w x zero n = refl
kind_free m k p w x (suc zero) n = refl
kind_free m k p w x (suc (suc zero)) n = absurd (n refl)
kind_free m k p w x (suc (suc (suc zero))) n = refl
kind_free m k p w x (suc (suc (suc (suc zero)))) n = refl
kind_free m k p w x (suc (suc (suc (suc (suc zero))))) n = refl
kind_free m k p w x (suc (suc (suc (suc (suc (suc zero)))))) n = refl
kind_free m k p w x (suc (suc (suc (suc (suc (suc (suc zero))))))) n = refl
kind_free m k p w x (suc (suc (suc (suc (suc (suc (suc (suc zero)))))))) n = refl
kind_free m k p w x (suc (suc (suc (suc (suc (suc (suc (suc (suc zero))))))))) n = refl
kind_free m k p w x (suc (suc (suc (suc (suc (suc (suc (suc (suc (suc zero)))))))))) n = refl
kind_free m k p w x (suc (suc (suc (suc (suc (suc (suc (suc (suc (suc (suc t))))))))))) n = refl

-- another word makes another tab, and nothing else
retab : (m : Meaning) (p w w' : ℕ) (x : Bytes) (a : Action) → read_action m p w x ≡ Ok a → (b : Action) × (read_action m p w' x ≡ Ok b)
retab m p w w' x a q =
    let s = walk (p + 4) x in
    let f = chain (kinds s) (λ l. the_kind p l >>= λ k. each 3 (read_attribute m k) s >>= λ as'. Ok (record { tab = type_of w; kind_text = k; attributes = as' })) q in
    let g = chain (the_kind p f.0) (λ k. each 3 (read_attribute m k) s >>= λ as'. Ok (record { tab = type_of w; kind_text = k; attributes = as' })) f.1.1 in
    let d = chain (each 3 (read_attribute m g.0) s) (λ as'. Ok (record { tab = type_of w; kind_text = g.0; attributes = as' })) g.1.1 in
    (record { tab = type_of w'; kind_text = g.0; attributes = d.0 }, assembled m p w' x f.0 g.0 d.0 f.1.0 g.1.0 d.1.0)

module _ (m : Meaning) (laws : BookLaws m) (n : ℕ) (small : n ≤ 65531) where
  module _ (l : List PageItem) (v : ℕ) (ds : List CardAction) (u : ℕ) where
    put-leaf : (is : List ActionItem) (a : Attribute) (b : ActionAttribute) → a.word < 65536 → Octets a.payload → ¬ (type_of a.word ≡ 2) → ((p : ℕ) → read_attribute m [] p a.word a.payload ≡ Ok b) →
        Reach m n small (level2 l v ds u is) (put_of a ∷ []) (length (encode a)) (level2 l v ds u (is ++ ActionItem.leaf a ∷ []))
    put-leaf is a b hw o no2 reads = as_need m n small (sym (put-length a.word a.payload)) refl (put2 m n small l v ds u is a.word a.payload b hw o no2 reads)

    options-reach : (is : List ActionItem) (os : List Attribute) → AllByRecursion (λ o. Writable o × Octets o.payload) os →
        Reach m n small (level2 l v ds u is) (attribute_turns (options os)) (length (encode (write_attribute (options os)))) (level2 l v ds u (is ++ ActionItem.nest 0x8002 os ∷ []))
    options-reach is os ok =
        let K : List Attribute → Card = λ xs. level3 l v ds u is 0x8002 xs in
        let puts = reach_list m n small K (λ a. put_of a ∷ []) (λ (a : Attribute). a) (λ (a : Attribute). a) (λ o. Writable o × Octets o.payload)
        (λ xs a h. as_need m n small (sym (put-length a.word a.payload)) refl (put3 m n small l v ds u is 0x8002 xs a.word a.payload h.0.word16 h.1)) os ok [] in
        let puts' : Reach m n small (level3 l v ds u is 0x8002 []) (flat_map (λ a. put_of a ∷ []) os) (length (encode_all os)) (level3 l v ds u is 0x8002 os) =
        as_need m n small (ap (λ (z : List Attribute). length (encode_all z)) (map-id os)) (ap K (map-id os)) puts in
        let fours : rounded (length (encode_all os)) ≡ length (encode_all os) = rounded-all os in
        let size : length (encode (attribute 0x8002 (encode_all os))) ≡ 4 + rounded (length (encode_all os)) = put-length 0x8002 (encode_all os) in
        as_need m n small (omega arith) refl (then m n small (open2 m n small l v ds u is) (then m n small puts' (close3 m n small l v ds u is 0x8002 os)))

    attribute-reach : (k : Bytes) (is : List ActionItem) (a : ActionAttribute) → Steady m k a → length (write_attribute a).payload ≤ 65531 →
        Reach m n small (level2 l v ds u is) (attribute_turns a) (length (encode (write_attribute a))) (level2 l v ds u (is ++ attribute_action_item a ∷ []))
    attribute-reach k is (kind t) s short = put-leaf is (write_attribute (kind t)) (kind t) s.word16 s.known (λ z. omega arith) (λ p. s.again p short)
    attribute-reach k is (options os) s short = options-reach is os s.known
    attribute-reach k is (index x) s short = put-leaf is (write_attribute (index x)) (index x) s.word16 (octets_bytes 4 x) (λ z. omega arith) (λ p. s.again p short)
    attribute-reach k is (stats x) s short = put-leaf is (write_attribute (stats x)) (stats x) s.word16 s.known (λ z. omega arith) (λ p. s.again p short)
    attribute-reach k is (cookie x) s short = put-leaf is (write_attribute (cookie x)) (cookie x) s.word16 s.known (λ z. omega arith) (λ p. s.again p short)
    attribute-reach k is (in_hw_count x) s short = put-leaf is (write_attribute (in_hw_count x)) (in_hw_count x) s.word16 (octets_bytes 4 x) (λ z. omega arith) (λ p. s.again p short)
    attribute-reach k is (other w x) s short =
        put-leaf is (attribute w x) (other w x) s.word16 s.known.1 s.known.0 (λ p. kind_free m k p w x (type_of w) s.known.0 ∙ s.again p short)

  action-reach : (l : List PageItem) (v : ℕ) (ds : List CardAction) (a : Action) → SteadyAction m laws a → length (write_action a).payload ≤ 65531 →
      Reach m n small (level1 l v ds) (action_turns a) (length (encode (write_action a))) (level1 l v (ds ++ action_card_action a ∷ []))
  action-reach l v ds a s short =
      let k = a.kind_text in
      let as' = a.attributes in
      let I = encode_all (map write_attribute as') in
      let both = all_both (Steady m k) (λ b. length (write_attribute b).payload ≤ 65531) as' s.all_steady (all_short write_attribute 65531 as' short) in
      let inner = reach_list m n small (λ xs. level2 l v ds a.tab xs) attribute_turns write_attribute attribute_action_item (λ b. Steady m k b × (length (write_attribute b).payload ≤ 65531))
      (λ xs b h. attribute-reach l v ds a.tab k xs b h.0 h.1) as' both [] in
      let b = retab m 0 a.tab 0 I a (action_again m laws a s 0 short) in
      let reads : (p : ℕ) → read_action m p 0 (action_items_bytes (map attribute_action_item as')) ≡ Ok b.0 = λ p. ap (read_action m p 0) (items_same as') ∙ action_placeless m 0 p 0 I b.0 b.1 in
      let fours : rounded (length I) ≡ length I = rounded-all (map write_attribute as') in
      let size : length (encode (attribute a.tab I)) ≡ 4 + rounded (length I) = put-length a.tab I in
      as_need m n small (omega arith) refl (then m n small (open1 m n small l v ds a.tab s.tab14) (then m n small inner (close2 m n small l v ds a.tab (map attribute_action_item as') b.0 reads)))

  put-page-item : (l : List PageItem) (a : Attribute) (o : FilterOption) → a.word < 65536 → Octets a.payload → ¬ (type_of a.word ≡ 7) → ((p : ℕ) → read_option m p a.word a.payload ≡ Ok o) →
      Reach m n small (level0 l) (put_of a ∷ []) (length (encode a)) (level0 (l ++ PageItem.leaf a ∷ []))
  put-page-item l a o hw ox no7 reads = as_need m n small (sym (put-length a.word a.payload)) refl (put0 m n small l a.word a.payload o hw ox no7 reads)

  actions-reach : (l : List PageItem) (as' : List Action) → AllByRecursion (SteadyAction m laws) as' → length (encode_all (map write_action as')) ≤ 65531 →
      Reach m n small (level0 l) (option_turns (actions as')) (length (encode (write_option (actions as')))) (level0 (l ++ PageItem.nest 7 (map action_card_action as') ∷ []))
  actions-reach l as' ok short =
      let I = encode_all (map write_action as') in
      let both = all_both (SteadyAction m laws) (λ b. length (write_action b).payload ≤ 65531) as' ok (all_short write_action 65531 as' short) in
      let inner = reach_list m n small (λ xs. level1 l 7 xs) action_turns write_action action_card_action (λ b. SteadyAction m laws b × (length (write_action b).payload ≤ 65531))
      (λ xs b h. action-reach l 7 xs b h.0 h.1) as' both [] in
      let fours : rounded (length I) ≡ length I = rounded-all (map write_action as') in
      let size : length (encode (attribute 7 I)) ≡ 4 + rounded (length I) = put-length 7 I in
      as_need m n small (omega arith) refl (then m n small (open0 m n small l) (then m n small inner (close1 m n small l 7 (map action_card_action as'))))

  keys_octets : (ks : List Key) → Octets (selectors.encode_keys ks)
  keys_octets [] = tt
  keys_octets (k ∷ ks) = octets_append (key.encode k) (selectors.encode_keys ks)
      (omega arith, (omega arith, (omega arith, (omega arith, (omega arith, (omega arith, (omega arith, (omega arith, (omega arith, (omega arith, (omega arith, (omega arith, (omega arith, (omega arith, (omega arith, (omega arith, tt)))))))))))))))) (keys_octets ks)

  selector_octets : (s : Selector) → Octets (selectors.encode s)
  selector_octets s = (omega arith, (omega arith, (omega arith, (omega arith, (omega arith, (omega arith, (omega arith, (omega arith, (omega arith, (omega arith, (omega arith, (omega arith, (omega arith, (omega arith, (omega arith, (omega arith, keys_octets s.keys))))))))))))))))

  option-reach : (l : List PageItem) (o : FilterOption) → SteadyOption m laws o → length (write_option o).payload ≤ 65531 →
      Reach m n small (level0 l) (option_turns o) (length (encode (write_option o))) (level0 (l ++ option_page_item o ∷ []))
  option-reach l (class_id a b) s short = put-page-item l (write_option (class_id a b)) (class_id a b) s.word16 (octets_bytes 4 (a * 65536 + b)) (λ z. omega arith) (λ p. s.again p short)
  option-reach l (hash x) s short = put-page-item l (write_option (hash x)) (hash x) s.word16 (octets_bytes 4 x) (λ z. omega arith) (λ p. s.again p short)
  option-reach l (link x) s short = put-page-item l (write_option (link x)) (link x) s.word16 (octets_bytes 4 x) (λ z. omega arith) (λ p. s.again p short)
  option-reach l (divisor x) s short = put-page-item l (write_option (divisor x)) (divisor x) s.word16 (octets_bytes 4 x) (λ z. omega arith) (λ p. s.again p short)
  option-reach l (selector x) s short = put-page-item l (write_option (selector x)) (selector x) s.word16 (selector_octets x) (λ z. omega arith) (λ p. s.again p short)
  option-reach l (police x) s short = put-page-item l (write_option (police x)) (police x) s.word16 s.known (λ z. omega arith) (λ p. s.again p short)
  option-reach l (indev x) s short = put-page-item l (write_option (indev x)) (indev x) s.word16 s.known (λ z. omega arith) (λ p. s.again p short)
  option-reach l (pcnt x) s short = put-page-item l (write_option (pcnt x)) (pcnt x) s.word16 s.known (λ z. omega arith) (λ p. s.again p short)
  option-reach l (mark x) s short = put-page-item l (write_option (mark x)) (mark x) s.word16 s.known (λ z. omega arith) (λ p. s.again p short)
  option-reach l (flags x) s short = put-page-item l (write_option (flags x)) (flags x) s.word16 (octets_bytes 4 x) (λ z. omega arith) (λ p. s.again p short)
  option-reach l (actions as') s short = actions-reach l as' s.known short
  option-reach l (default w x) s short = put-page-item l (attribute w x) (default w x) s.word16 s.known.1 s.known.0 (λ p. s.again p short)

-- in memory with room for the written form, its calls write it, and leave no nest open
pub reading_built : (m : Meaning) → BookLaws m → (bs : Bytes) → Octets bs → (r : Reading) → read_filter m bs ≡ Ok r → (memory : Bytes) → length memory ≤ 65531 → length (written r) ≤ length memory →
    Run (length memory) (reading_turns r) × (page_bytes (run m (start memory) (reading_turns r)) ≡ written r) × (level (run m (start memory) (reading_turns r)).page ≡ 0)
reading_built m laws bs o r q memory small room =
    let n = length memory in
    let both = all_both (SteadyOption m laws) (λ o. length (write_option o).payload ≤ 65531) r (all_steady m laws bs o r (read_inside m laws bs r q)) (all_short write_option 65531 r (omega arith)) in
    let way = reach_list m n small level0 option_turns write_option option_page_item (λ o. SteadyOption m laws o × (length (write_option o).payload ≤ 65531)) (λ xs o h. option-reach m laws n small xs o h.0 h.1) r both [] in
    let h = way.there (start memory) (memory, (refl, refl, tt)) (omega arith) in
    let k = level0 (map option_page_item r) in
    let bytes : page_bytes (run m (start memory) (reading_turns r)) ≡ written r =
    ap page_bytes h.1.0 ∙ take_at (card_bytes k) h.0 (length (card_bytes k)) refl ∙ page_items_same r in
    (way.fair, bytes, ap (λ (z : State). level z.page) h.1.0)

pub every_filter_is_a_page : EveryFilterIsAPage
every_filter_is_a_page m laws bs o r q short memory om len =
    (reading_turns r, reading_built m laws bs o r q memory (omega arith) (omega arith))
