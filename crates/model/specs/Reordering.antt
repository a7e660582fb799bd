-- One list of a page in another order. Assumes nothing.
use Rattle.std.specs.Prelude.{◌≡◌, ℕ, zero, suc, List, [], ◌∷◌}
use mathlib.Core.List.{Permᴰ}
use Rattle.model.specs.Attributes.{Attribute}
use Rattle.model.specs.Reading.{Action, ActionAttribute, kind, options, index, stats, cookie, in_hw_count, other, FilterOption, class_id, hash, link, divisor, selector, police, actions, indev, pcnt, mark, flags, default, Reading}
use Rattle.model.specs.Card.{ActionItem, CardAction, PageItem, card_action}

-- two neighbours change places; every order of a list comes from the first by such swaps, done one after another
abbrev pub swap : {A : Type 0} → ℕ → List A → List A
swap i [] = []
swap i (a ∷ []) = a ∷ []
swap zero (a ∷ b ∷ l) = b ∷ a ∷ l
swap (suc i) (a ∷ b ∷ l) = a ∷ swap i (b ∷ l)

abbrev pub reorder : {A : Type 0} → List ℕ → List A → List A
reorder [] l = l
reorder (i ∷ is) l = reorder is (swap i l)

-- any order of a list is reached by such swaps: a permutation, as mathlib has it, is a reordering
abbrev pub ReachedIn : Type 0 → Type 0
ReachedIn X = (l l' : List X) → Permᴰ l l' → (π : List ℕ) × (reorder π l ≡ l')

-- so it is for each list of a page that can be put into another order
pub record EveryOrderIsReached : Type 0 where
  pub of_page_items : ReachedIn PageItem
  pub of_card_actions : ReachedIn CardAction
  pub of_action_items : ReachedIn ActionItem
  pub of_attributes : ReachedIn Attribute

-- the i-th element changed
abbrev pub at : {A : Type 0} → ℕ → (A → A) → List A → List A
at i f [] = []
at zero f (a ∷ l) = f a ∷ l
at (suc i) f (a ∷ l) = a ∷ at i f l

-- one list: the page's, that of the nest at i, of its action at j, of the nest of options at n in that
pub data Spot : Type 0 where
  of_page : Spot
  of_nest : ℕ → Spot
  of_action : ℕ → ℕ → Spot
  of_options : ℕ → ℕ → ℕ → Spot

abbrev pub in_page_item : (List CardAction → List CardAction) → PageItem → PageItem
in_page_item f (PageItem.leaf a) = PageItem.leaf a
in_page_item f (PageItem.nest w l) = PageItem.nest w (f l)

abbrev pub in_action_item : (List Attribute → List Attribute) → ActionItem → ActionItem
in_action_item f (ActionItem.leaf a) = ActionItem.leaf a
in_action_item f (ActionItem.nest w l) = ActionItem.nest w (f l)

abbrev pub in_card_action : (List ActionItem → List ActionItem) → CardAction → CardAction
in_card_action f d = card_action d.word (f d.items)

abbrev pub page_items_reordered : Spot → List ℕ → List PageItem → List PageItem
page_items_reordered of_page π l = reorder π l
page_items_reordered (of_nest i) π l = at i (in_page_item (reorder π)) l
page_items_reordered (of_action i j) π l = at i (in_page_item (at j (in_card_action (reorder π)))) l
page_items_reordered (of_options i j n) π l = at i (in_page_item (at j (in_card_action (at n (in_action_item (reorder π)))))) l

abbrev pub in_actions : (List Action → List Action) → FilterOption → FilterOption
in_actions f (class_id a b) = class_id a b
in_actions f (hash n) = hash n
in_actions f (link n) = link n
in_actions f (divisor n) = divisor n
in_actions f (selector s) = selector s
in_actions f (police x) = police x
in_actions f (actions l) = actions (f l)
in_actions f (indev x) = indev x
in_actions f (pcnt x) = pcnt x
in_actions f (mark x) = mark x
in_actions f (flags n) = flags n
in_actions f (default w x) = default w x

abbrev pub in_options : (List Attribute → List Attribute) → ActionAttribute → ActionAttribute
in_options f (kind t) = kind t
in_options f (options l) = options (f l)
in_options f (index n) = index n
in_options f (stats x) = stats x
in_options f (cookie x) = cookie x
in_options f (in_hw_count n) = in_hw_count n
in_options f (other w x) = other w x

abbrev pub in_action : (List ActionAttribute → List ActionAttribute) → Action → Action
in_action f a = record { tab = a.tab; kind_text = a.kind_text; attributes = f a.attributes }

abbrev pub reading_reordered : Spot → List ℕ → Reading → Reading
reading_reordered of_page π r = reorder π r
reading_reordered (of_nest i) π r = at i (in_actions (reorder π)) r
reading_reordered (of_action i j) π r = at i (in_actions (at j (in_action (reorder π)))) r
reading_reordered (of_options i j n) π r = at i (in_actions (at j (in_action (at n (in_options (reorder π)))))) r
