-- What a card's lists read as, from their bytes and one by one. Assumes nothing.
use Rattle.std.proofs.Common.{◌≡◌, ℕ, zero, suc, ◌+◌, ◌/◌, ◌%◌, Bool, true, false, eqb, List, [], ◌∷◌, map, length, get_or, Ok, sym, refl, ap, ◌∙◌, subst, ap₂}
use Rattle.std.proofs.lemmas.List.{map-id}
use Rattle.std.specs.List.{AllByRecursion}
use Rattle.model.specs.Numbers.{Bytes}
use Rattle.model.specs.Faults.{Read, ◌>>=◌}
use Rattle.model.specs.Attributes.{rounded, type_of, Attribute, attribute, Writable, encode_all}
use Rattle.model.specs.Walk.{Walked, item, walk, found}
use Rattle.model.specs.Book.{Meaning}
use Rattle.model.specs.Reading.{each, u32, text, read_selector, as_read, ActionAttribute, index, in_hw_count, kind, options, AttributeForm, attribute_forms, read_as, read_attribute, kinds, the_kind, Action, read_action, OptionForm, option_forms, FilterOption, class_id, hash, link, divisor, flags, selector, actions, read_option_as, read_option}
use Rattle.model.specs.Counts.{options_in, actions_of, sum_of}
use Rattle.model.specs.Card.{ActionItem, CardAction, PageItem, card_action, action_item_attribute, action_items_bytes, card_action_attribute, card_actions_bytes, page_action_item_attribute}
use Rattle.model.specs.CardReading.{all, action_item_kinds, read_action_item, read_card_action, read_page_item, card_actions_in, options_of}
use Rattle.model.proofs.Walk.{walk_of_encode}
use Rattle.model.proofs.Each.{ok_same, chain, all_mapped}
use Rattle.model.proofs.Placeless.{Also, also_then, also_same, text_also, the_kind_also, as_read_also, attribute_placeless, action_placeless, option_placeless}

-- ── one by one, and from the bytes ──
pub also_found : {A B : Type 0} (layer : ℕ) (f : ℕ → ℕ → Bytes → Read A) (w : B → Attribute) (g : B → Read A) (l : List B) →
    AllByRecursion (λ b. (p : ℕ) → Also (f p (w b).word (w b).payload) (g b)) l → (p : ℕ) → Also (each layer f (found p (map w l))) (all g l)
also_found layer f w g [] h p = also_same (Ok [])
also_found layer f w g (b ∷ l) h p =
    also_then (f p (w b).word (w b).payload) (g b) _ _ (h.0 p)
    (λ a. also_then (each layer f (found (p + rounded (4 + length (w b).payload)) (map w l))) (all g l) _ _ (also_found layer f w g l h.1 (p + rounded (4 + length (w b).payload))) (λ as'. also_same (Ok (a ∷ as'))))

-- and back
pub also_all : {A B : Type 0} (layer : ℕ) (f : ℕ → ℕ → Bytes → Read A) (w : B → Attribute) (g : B → Read A) (l : List B) →
    AllByRecursion (λ b. (p : ℕ) → Also (g b) (f p (w b).word (w b).payload)) l → (p : ℕ) → Also (all g l) (each layer f (found p (map w l)))
also_all layer f w g [] h p = also_same (Ok [])
also_all layer f w g (b ∷ l) h p =
    also_then (g b) (f p (w b).word (w b).payload) _ _ (h.0 p)
    (λ a. also_then (all g l) (each layer f (found (p + rounded (4 + length (w b).payload)) (map w l))) _ _ (also_all layer f w g l h.1 (p + rounded (4 + length (w b).payload))) (λ as'. also_same (Ok (a ∷ as'))))

-- lists of two kinds, element by element
abbrev pub Both : {A B : Type 0} → (B → A → Type 0) → List B → List A → Type 0
Both Q [] [] = Unit {0}
Both Q [] (a ∷ as') = ⊥
Both Q (b ∷ bs) [] = ⊥
Both Q (b ∷ bs) (a ∷ as') = Q b a × Both Q bs as'

pub sums : {A B : Type 0} (Q : B → A → Type 0) (c : A → ℕ) (d : B → ℕ) → ((b : B) (a : A) → Q b a → c a ≡ d b) → (bs : List B) (as' : List A) → Both Q bs as' → sum_of c as' ≡ sum_of d bs
sums Q c d h [] [] z = refl
sums Q c d h [] (a ∷ as') z = absurd z
sums Q c d h (b ∷ bs) [] z = absurd z
sums Q c d h (b ∷ bs) (a ∷ as') z = ap₂ ◌+◌ (h b a z.0) (sums Q c d h bs as' z.1)

pub lengths : {A B : Type 0} (Q : B → A → Type 0) (bs : List B) (as' : List A) → Both Q bs as' → length as' ≡ length bs
lengths Q [] [] z = refl
lengths Q [] (a ∷ as') z = absurd z
lengths Q (b ∷ bs) [] z = absurd z
lengths Q (b ∷ bs) (a ∷ as') z = ap suc (lengths Q bs as' z.1)

-- b reads as a, from bytes at any place and by itself
pub record Reads {A B : Type 0} (f : ℕ → ℕ → Bytes → Read A) (w : B → Attribute) (g : B → Read A) (b : B) (a : A) : Type 0 where
  pub anywhere : (p : ℕ) → f p (w b).word (w b).payload ≡ Ok a
  pub alone : g b ≡ Ok a

module _ {A B : Type 0} (layer : ℕ) (f : ℕ → ℕ → Bytes → Read A) (w : B → Attribute) (g : B → Read A) where
  pub found_reads : (bs : List B) (as' : List A) → Both (Reads f w g) bs as' → (p : ℕ) → each layer f (found p (map w bs)) ≡ Ok as'
  found_reads [] [] z p = refl
  found_reads [] (a ∷ as') z p = absurd z
  found_reads (b ∷ bs) [] z p = absurd z
  found_reads (b ∷ bs) (a ∷ as') z p = rw (z.0.anywhere p, found_reads bs as' z.1 (p + rounded (4 + length (w b).payload)))

  pub all-reads : (bs : List B) (as' : List A) → Both (Reads f w g) bs as' → all g bs ≡ Ok as'
  all-reads [] [] z = refl
  all-reads [] (a ∷ as') z = absurd z
  all-reads (b ∷ bs) [] z = absurd z
  all-reads (b ∷ bs) (a ∷ as') z = rw (z.0.alone, all-reads bs as' z.1)

-- ── items of an action ──
abbrev pub GoodActionItem : ActionItem → Type 0
GoodActionItem (ActionItem.leaf a) = Writable a × ¬ (type_of a.word ≡ 2)
GoodActionItem (ActionItem.nest w os) = Writable (attribute w (encode_all os)) × (0x8002 ≡ w) × AllByRecursion Writable os

pub action_item_writable : (i : ActionItem) → GoodActionItem i → Writable (action_item_attribute i)
action_item_writable (ActionItem.leaf a) h = h.0
action_item_writable (ActionItem.nest w os) h = h.0

kind-test : (t : Bool) (p : ℕ) (x : Bytes) (r : Walked) (l : List ActionItem) → Also (kinds r) (action_item_kinds l) →
    Also (elim t [ true ↦ text p 3 x >>= (λ t. kinds r >>= λ l. Ok (t ∷ l)) | false ↦ kinds r ]) (elim t [ true ↦ text 0 3 x >>= (λ t. action_item_kinds l >>= λ ts. Ok (t ∷ ts)) | false ↦ action_item_kinds l ])
kind-test true p x r l h = also_then (text p 3 x) (text 0 3 x) _ _ (text_also p 0 3 x) (λ t. also_then (kinds r) (action_item_kinds l) _ _ h (λ ts. also_same (Ok (t ∷ ts))))
kind-test false p x r l h = h

pub action_item_kinds-found : (l : List ActionItem) → AllByRecursion GoodActionItem l → (p : ℕ) → Also (kinds (found p (map action_item_attribute l))) (action_item_kinds l)
action_item_kinds-found [] h p a q = q
action_item_kinds-found (ActionItem.leaf b ∷ l) h p a q =
    kind-test (eqb (type_of b.word) 1) p b.payload (found (p + rounded (4 + length b.payload)) (map action_item_attribute l)) l (action_item_kinds-found l h.1 (p + rounded (4 + length b.payload))) a q
action_item_kinds-found (ActionItem.nest w os ∷ l) h p a q =
    let r = found (p + rounded (4 + length (encode_all os))) (map action_item_attribute l) in
    let q' : kinds (item p 0x8002 (encode_all os) r) ≡ Ok a = subst (λ (v : ℕ). kinds (item p v (encode_all os) r) ≡ Ok a) (sym h.0.1) q in
    action_item_kinds-found l h.1 (p + rounded (4 + length (encode_all os))) a q'

module _ (m : Meaning) where
  pub options-read : (k : Bytes) (os : List Attribute) → AllByRecursion Writable os → (p : ℕ) → Also (each 4 (λ q v y. as_read q (m k v y)) (walk p (encode_all os))) (all (λ o. as_read 0 (m k o.word o.payload)) os)
  options-read k os ok p a q =
      let f : ℕ → ℕ → Bytes → Read Attribute = λ q v y. as_read q (m k v y) in
      let q' : each 4 f (found p (map (λ (o : Attribute). o) os)) ≡ Ok a =
      ap (λ (l : List Attribute). each 4 f (found p l)) (map-id os) ∙ ap (each 4 f) (sym (walk_of_encode p os ok)) ∙ q in
      also_found 4 f (λ o. o) (λ o. as_read 0 (m k o.word o.payload)) os (every os) p a q'
    where
      every : (l : List Attribute) → AllByRecursion (λ o. (p : ℕ) → Also (as_read p (m k o.word o.payload)) (as_read 0 (m k o.word o.payload))) l
      every [] = tt
      every (o ∷ l) = ((λ p. as_read_also p 0 (m k o.word o.payload)), every l)

  pub action-item-read : (k : Bytes) (i : ActionItem) → GoodActionItem i → (p : ℕ) → Also (read_attribute m k p (action_item_attribute i).word (action_item_attribute i).payload) (read_action_item m k i)
  action-item-read k (ActionItem.leaf a) h p = attribute_placeless m k p 0 a.word a.payload
  action-item-read k (ActionItem.nest w os) h p =
      subst (λ (v : ℕ). Also (read_attribute m k p v (encode_all os)) (read_action_item m k (ActionItem.nest w os))) h.1
      (also_then _ _ _ _ (options-read k os h.2 (p + 4)) (λ l. also_same (Ok (options l))))

  items-read : (k : Bytes) (l : List ActionItem) → AllByRecursion GoodActionItem l → (p : ℕ) → Also (each 3 (read_attribute m k) (found p (map action_item_attribute l))) (all (read_action_item m k) l)
  items-read k l h p = also_found 3 (read_attribute m k) action_item_attribute (read_action_item m k) l (every l h) p
    where
      every : (l : List ActionItem) → AllByRecursion GoodActionItem l → AllByRecursion (λ i. (p : ℕ) → Also (read_attribute m k p (action_item_attribute i).word (action_item_attribute i).payload) (read_action_item m k i)) l
      every [] h = tt
      every (i ∷ l) h = (action-item-read k i h.0, every l h.1)

  -- an attribute of another type than 2 has no options
  no_options : (k : Bytes) (p w : ℕ) (x : Bytes) (a : ActionAttribute) (t : ℕ) → ¬ (t ≡ 2) → read_as m (get_or attribute_forms t AttributeForm.as_default) k p w x ≡ Ok a → options_in a ≡ 0
  no_options k p w x a zero n q = ap options_in (sym (ok_same q))
  no_options k p w x a (suc zero) n q = let g = chain (text p 3 x) (λ t. Ok (kind t)) q in ap options_in (sym (ok_same g.1.1))
  no_options k p w x a (suc (suc zero)) n q = absurd (n refl)
  no_options k p w x a (suc (suc (suc zero))) n q = let g = chain (u32 p 3 x) (λ n. Ok (index n)) q in ap options_in (sym (ok_same g.1.1))
  no_options k p w x a (suc (suc (suc (suc zero)))) n q = ap options_in (sym (ok_same q))
  no_options k p w x a (suc (suc (suc (suc (suc zero))))) n q = ap options_in (sym (ok_same q))
  no_options k p w x a (suc (suc (suc (suc (suc (suc zero)))))) n q = ap options_in (sym (ok_same q))
  no_options k p w x a (suc (suc (suc (suc (suc (suc (suc zero))))))) n q = ap options_in (sym (ok_same q))
  no_options k p w x a (suc (suc (suc (suc (suc (suc (suc (suc zero)))))))) n q = ap options_in (sym (ok_same q))
  no_options k p w x a (suc (suc (suc (suc (suc (suc (suc (suc (suc zero))))))))) n q = ap options_in (sym (ok_same q))
  no_options k p w x a (suc (suc (suc (suc (suc (suc (suc (suc (suc (suc zero)))))))))) n q = let g = chain (u32 p 3 x) (λ n. Ok (in_hw_count n)) q in ap options_in (sym (ok_same g.1.1))
  no_options k p w x a (suc (suc (suc (suc (suc (suc (suc (suc (suc (suc (suc t))))))))))) n q = ap options_in (sym (ok_same q))

  -- and one of another type than 7 no actions
  no_actions : (p w : ℕ) (x : Bytes) (o : FilterOption) (t : ℕ) → ¬ (t ≡ 7) → read_option_as m (get_or option_forms t OptionForm.as_default) p w x ≡ Ok o → actions_of o ≡ []
  no_actions p w x o zero n q = ap actions_of (sym (ok_same q))
  no_actions p w x o (suc zero) n q = let g = chain (u32 p 1 x) (λ n. Ok (class_id (n / 65536) (n % 65536))) q in ap actions_of (sym (ok_same g.1.1))
  no_actions p w x o (suc (suc zero)) n q = let g = chain (u32 p 1 x) (λ n. Ok (hash n)) q in ap actions_of (sym (ok_same g.1.1))
  no_actions p w x o (suc (suc (suc zero))) n q = let g = chain (u32 p 1 x) (λ n. Ok (link n)) q in ap actions_of (sym (ok_same g.1.1))
  no_actions p w x o (suc (suc (suc (suc zero)))) n q = let g = chain (u32 p 1 x) (λ n. Ok (divisor n)) q in ap actions_of (sym (ok_same g.1.1))
  no_actions p w x o (suc (suc (suc (suc (suc zero))))) n q = let g = chain (read_selector p x) (λ s. Ok (selector s)) q in ap actions_of (sym (ok_same g.1.1))
  no_actions p w x o (suc (suc (suc (suc (suc (suc zero)))))) n q = ap actions_of (sym (ok_same q))
  no_actions p w x o (suc (suc (suc (suc (suc (suc (suc zero))))))) n q = absurd (n refl)
  no_actions p w x o (suc (suc (suc (suc (suc (suc (suc (suc zero)))))))) n q = ap actions_of (sym (ok_same q))
  no_actions p w x o (suc (suc (suc (suc (suc (suc (suc (suc (suc zero))))))))) n q = ap actions_of (sym (ok_same q))
  no_actions p w x o (suc (suc (suc (suc (suc (suc (suc (suc (suc (suc zero)))))))))) n q = ap actions_of (sym (ok_same q))
  no_actions p w x o (suc (suc (suc (suc (suc (suc (suc (suc (suc (suc (suc zero))))))))))) n q = let g = chain (u32 p 1 x) (λ n. Ok (flags n)) q in ap actions_of (sym (ok_same g.1.1))
  no_actions p w x o (suc (suc (suc (suc (suc (suc (suc (suc (suc (suc (suc (suc t)))))))))))) n q = ap actions_of (sym (ok_same q))

  all-length : {A B : Type 0} (g : B → Read A) (l : List B) (r : List A) → all g l ≡ Ok r → length r ≡ length l
  all-length g [] r q = ap length (sym (ok_same q))
  all-length g (b ∷ l) r q =
      let f = chain (g b) (λ b. all g l >>= λ bs. Ok (b ∷ bs)) q in
      let d = chain (all g l) (λ bs. Ok (f.0 ∷ bs)) f.1.1 in
      ap length (sym (ok_same d.1.1)) ∙ ap suc (all-length g l d.0 d.1.0)

  pub action-item-count : (k : Bytes) (i : ActionItem) (a : ActionAttribute) → GoodActionItem i → read_action_item m k i ≡ Ok a → options_in a ≡ options_of i
  action-item-count k (ActionItem.leaf b) a h q = no_options k 0 b.word b.payload a (type_of b.word) h.1 q
  action-item-count k (ActionItem.nest w os) a h q =
      let f = chain (all (λ o. as_read 0 (m k o.word o.payload)) os) (λ l. Ok (options l)) q in
      ap options_in (sym (ok_same f.1.1)) ∙ all-length (λ o. as_read 0 (m k o.word o.payload)) os f.0 f.1.0

  items-count : (k : Bytes) (l : List ActionItem) (r : List ActionAttribute) → AllByRecursion GoodActionItem l → all (read_action_item m k) l ≡ Ok r → sum_of options_in r ≡ sum_of options_of l
  items-count k [] r h q = ap (sum_of options_in) (sym (ok_same q))
  items-count k (i ∷ l) r h q =
      let f = chain (read_action_item m k i) (λ b. all (read_action_item m k) l >>= λ bs. Ok (b ∷ bs)) q in
      let d = chain (all (read_action_item m k) l) (λ bs. Ok (f.0 ∷ bs)) f.1.1 in
      ap (sum_of options_in) (sym (ok_same d.1.1)) ∙ ap₂ ◌+◌ (action-item-count k i f.0 h.0 f.1.0) (items-count k l d.0 h.1 d.1.0)

  -- ── an action ──
  pub record GoodCardAction (d : CardAction) : Type 0 where
    pub writable : Writable (card_action_attribute d)
    pub made : Action
    pub reads : Reads (read_action m) card_action_attribute (read_card_action m) d made
    pub good_items : AllByRecursion GoodActionItem d.items
    pub count : sum_of options_in made.attributes ≡ sum_of options_of d.items

  pub assembled : (h u : ℕ) (x : Bytes) (ts : List Bytes) (k : Bytes) (as' : List ActionAttribute) → kinds (walk (h + 4) x) ≡ Ok ts → the_kind h ts ≡ Ok k → each 3 (read_attribute m k) (walk (h + 4) x) ≡ Ok as' →
      read_action m h u x ≡ Ok (record { tab = type_of u; kind_text = k; attributes = as' })
  assembled h u x ts k as' e f g = rw (e, f, g)

  pub card_action_assembled : (u : ℕ) (l : List ActionItem) (ts : List Bytes) (k : Bytes) (as' : List ActionAttribute) → action_item_kinds l ≡ Ok ts → the_kind 0 ts ≡ Ok k → all (read_action_item m k) l ≡ Ok as' →
      read_card_action m (card_action u l) ≡ Ok (record { tab = type_of u; kind_text = k; attributes = as' })
  card_action_assembled u l ts k as' e f g = rw (e, f, g)

  pub card_action_good : (u h : ℕ) (l : List ActionItem) (a : Action) → AllByRecursion GoodActionItem l → Writable (attribute u (action_items_bytes l)) → read_action m h 0 (action_items_bytes l) ≡ Ok a → GoodCardAction (card_action u l)
  card_action_good u h l a good ok q =
      let walked : walk (h + 4) (action_items_bytes l) ≡ found (h + 4) (map action_item_attribute l) = walk_of_encode (h + 4) (map action_item_attribute l) (all_mapped GoodActionItem Writable action_item_attribute action_item_writable l good) in
      let s = walk (h + 4) (action_items_bytes l) in
      let f = chain (kinds s) (λ ts. the_kind h ts >>= λ k. each 3 (read_attribute m k) s >>= λ as'. Ok (record { tab = 0; kind_text = k; attributes = as' })) q in
      let g = chain (the_kind h f.0) (λ k. each 3 (read_attribute m k) s >>= λ as'. Ok (record { tab = 0; kind_text = k; attributes = as' })) f.1.1 in
      let d = chain (each 3 (read_attribute m g.0) s) (λ as'. Ok (record { tab = 0; kind_text = g.0; attributes = as' })) g.1.1 in
      let mine : Action = record { tab = type_of u; kind_text = g.0; attributes = d.0 } in
      let here : read_action m h u (action_items_bytes l) ≡ Ok mine = assembled h u (action_items_bytes l) f.0 g.0 d.0 f.1.0 g.1.0 d.1.0 in
      let heard : action_item_kinds l ≡ Ok f.0 = action_item_kinds-found l good (h + 4) f.0 (ap kinds (sym walked) ∙ f.1.0) in
      let kept : all (read_action_item m g.0) l ≡ Ok d.0 = items-read g.0 l good (h + 4) d.0 (ap (each 3 (read_attribute m g.0)) (sym walked) ∙ d.1.0) in
      let one : the_kind 0 f.0 ≡ Ok g.0 = the_kind_also h 0 f.0 g.0 g.1.0 in
      record {
        writable = ok;
        made = mine;
        reads = record { anywhere = λ p. action_placeless m h p u (action_items_bytes l) mine here; alone = card_action_assembled u l f.0 g.0 d.0 heard one kept };
        good_items = good;
        count = items-count g.0 l d.0 good kept;
      }

  -- ── an entry of the page ──
  abbrev pub Shape : PageItem → Type 0
  Shape (PageItem.leaf a) = Unit {0}
  Shape (PageItem.nest w ds) = (7 ≡ w) × AllByRecursion GoodCardAction ds

  pub record GoodPageItem (e : PageItem) : Type 0 where
    pub writable : Writable (page_action_item_attribute e)
    pub made : FilterOption
    pub reads : Reads (read_option m) page_action_item_attribute (read_page_item m) e made
    pub shape : Shape e
    pub count-actions : length (actions_of made) ≡ length (card_actions_in e)
    pub count-options : sum_of (λ a. sum_of options_in a.attributes) (actions_of made) ≡ sum_of (λ d. sum_of options_of d.items) (card_actions_in e)

  pub leaf_good : (p : ℕ) (a : Attribute) (o : FilterOption) → Writable a → ¬ (type_of a.word ≡ 7) → read_option m p a.word a.payload ≡ Ok o → GoodPageItem (PageItem.leaf a)
  leaf_good p a o ok n q =
      let none : actions_of o ≡ [] = no_actions p a.word a.payload o (type_of a.word) n q in
      record {
        writable = ok;
        made = o;
        reads = record { anywhere = λ r. option_placeless m p r a.word a.payload o q; alone = option_placeless m p 0 a.word a.payload o q };
        shape = tt;
        count-actions = ap length none;
        count-options = ap (sum_of (λ (a : Action). sum_of options_in a.attributes)) none;
      }

  Deeds : CardAction → Action → Type 0
  Deeds d a = Reads (read_action m) card_action_attribute (read_card_action m) d a × (sum_of options_in a.attributes ≡ sum_of options_of d.items)

  actions_from : (l : List CardAction) → AllByRecursion GoodCardAction l → (as' : List Action) × (Both (Reads (read_action m) card_action_attribute (read_card_action m)) l as' × (sum_of (λ a. sum_of options_in a.attributes) as' ≡ sum_of (λ d. sum_of options_of d.items) l))
  actions_from [] h = ([], (tt, refl))
  actions_from (d ∷ l) h =
      let r = actions_from l h.1 in
      (h.0.made ∷ r.0, ((h.0.reads, r.1.0), ap₂ ◌+◌ h.0.count r.1.1))

  pub nest_good : (l : List CardAction) → AllByRecursion GoodCardAction l → Writable (attribute 7 (card_actions_bytes l)) → GoodPageItem (PageItem.nest 7 l)
  nest_good l h ok =
      let r = actions_from l h in
      let fine = all_mapped GoodCardAction Writable card_action_attribute (λ d g. g.writable) l h in
      record {
        writable = ok;
        made = actions r.0;
        reads = record {
          anywhere = λ p. ap (λ (z : Read (List Action)). z >>= λ l. Ok (actions l)) (ap (each 2 (read_action m)) (walk_of_encode (p + 4) (map card_action_attribute l) fine) ∙ found_reads 2 (read_action m) card_action_attribute (read_card_action m) l r.0 r.1.0 (p + 4));
          alone = ap (λ (z : Read (List Action)). z >>= λ l. Ok (actions l)) (all-reads 2 (read_action m) card_action_attribute (read_card_action m) l r.0 r.1.0);
        };
        shape = (refl, h);
        count-actions = lengths (Reads (read_action m) card_action_attribute (read_card_action m)) l r.0 r.1.0;
        count-options = r.1.1;
      }

-- ── from the card's reading to the bytes' ──
back_test : (t : Bool) (p : ℕ) (x : Bytes) (r : Walked) (l : List ActionItem) → Also (action_item_kinds l) (kinds r) →
    Also (elim t [ true ↦ text 0 3 x >>= (λ t. action_item_kinds l >>= λ ts. Ok (t ∷ ts)) | false ↦ action_item_kinds l ]) (elim t [ true ↦ text p 3 x >>= (λ t. kinds r >>= λ l. Ok (t ∷ l)) | false ↦ kinds r ])
back_test true p x r l h = also_then (text 0 3 x) (text p 3 x) _ _ (text_also 0 p 3 x) (λ t. also_then (action_item_kinds l) (kinds r) _ _ h (λ ts. also_same (Ok (t ∷ ts))))
back_test false p x r l h = h

kinds_back : (l : List ActionItem) → AllByRecursion GoodActionItem l → (p : ℕ) → Also (action_item_kinds l) (kinds (found p (map action_item_attribute l)))
kinds_back [] h p a q = q
kinds_back (ActionItem.leaf b ∷ l) h p a q =
    back_test (eqb (type_of b.word) 1) p b.payload (found (p + rounded (4 + length b.payload)) (map action_item_attribute l)) l (kinds_back l h.1 (p + rounded (4 + length b.payload))) a q
kinds_back (ActionItem.nest w os ∷ l) h p a q =
    let r = found (p + rounded (4 + length (encode_all os))) (map action_item_attribute l) in
    subst (λ (v : ℕ). kinds (item p v (encode_all os) r) ≡ Ok a) h.0.1 (kinds_back l h.1 (p + rounded (4 + length (encode_all os))) a q)

module _ (m : Meaning) where
  options_back : (k : Bytes) (os : List Attribute) → AllByRecursion Writable os → (p : ℕ) → Also (all (λ o. as_read 0 (m k o.word o.payload)) os) (each 4 (λ q v y. as_read q (m k v y)) (walk p (encode_all os)))
  options_back k os ok p a q =
      let f : ℕ → ℕ → Bytes → Read Attribute = λ q v y. as_read q (m k v y) in
      ap (each 4 f) (walk_of_encode p os ok) ∙ ap (λ (l : List Attribute). each 4 f (found p l)) (sym (map-id os))
      ∙ also_all 4 f (λ o. o) (λ o. as_read 0 (m k o.word o.payload)) os (every os) p a q
    where
      every : (l : List Attribute) → AllByRecursion (λ o. (p : ℕ) → Also (as_read 0 (m k o.word o.payload)) (as_read p (m k o.word o.payload))) l
      every [] = tt
      every (o ∷ l) = ((λ p. as_read_also 0 p (m k o.word o.payload)), every l)

  item_back : (k : Bytes) (i : ActionItem) → GoodActionItem i → (p : ℕ) → Also (read_action_item m k i) (read_attribute m k p (action_item_attribute i).word (action_item_attribute i).payload)
  item_back k (ActionItem.leaf a) h p = attribute_placeless m k 0 p a.word a.payload
  item_back k (ActionItem.nest w os) h p =
      subst (λ (v : ℕ). Also (read_action_item m k (ActionItem.nest w os)) (read_attribute m k p v (encode_all os))) h.1
      (also_then _ _ _ _ (options_back k os h.2 (p + 4)) (λ l. also_same (Ok (options l))))

  items_back : (k : Bytes) (l : List ActionItem) → AllByRecursion GoodActionItem l → (p : ℕ) → Also (all (read_action_item m k) l) (each 3 (read_attribute m k) (found p (map action_item_attribute l)))
  items_back k l h p = also_all 3 (read_attribute m k) action_item_attribute (read_action_item m k) l (every l h) p
    where
      every : (l : List ActionItem) → AllByRecursion GoodActionItem l → AllByRecursion (λ i. (p : ℕ) → Also (read_action_item m k i) (read_attribute m k p (action_item_attribute i).word (action_item_attribute i).payload)) l
      every [] h = tt
      every (i ∷ l) h = (item_back k i h.0, every l h.1)

  -- an action whose items read one by one is good
  pub card_action_good_from : (u : ℕ) (l : List ActionItem) (ts : List Bytes) (k : Bytes) (as' : List ActionAttribute) → AllByRecursion GoodActionItem l → Writable (attribute u (action_items_bytes l)) →
      action_item_kinds l ≡ Ok ts → the_kind 0 ts ≡ Ok k → all (read_action_item m k) l ≡ Ok as' → GoodCardAction m (card_action u l)
  card_action_good_from u l ts k as' good ok e f g =
      let walked : walk 4 (action_items_bytes l) ≡ found 4 (map action_item_attribute l) = walk_of_encode 4 (map action_item_attribute l) (all_mapped GoodActionItem Writable action_item_attribute action_item_writable l good) in
      card_action_good m u 0 l (record { tab = 0; kind_text = k; attributes = as' }) good ok
      (assembled m 0 0 (action_items_bytes l) ts k as' (ap kinds walked ∙ kinds_back l good 4 ts e) f (ap (each 3 (read_attribute m k)) walked ∙ items_back k l good 4 as' g))
