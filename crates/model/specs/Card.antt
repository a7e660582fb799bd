-- The card of a run: what was put and opened, as lists, with no bytes and no memory. Assumes nothing.
use Rattle.std.specs.Prelude.{ℕ, ◌+◌, Bool, true, false, List, [], ◌∷◌, ◌++◌, map, length}
use Rattle.model.specs.Numbers.{Bytes}
use Rattle.model.specs.Attributes.{Attribute, attribute, head, encode_all}
use Rattle.model.specs.Book.{Meaning}
use Rattle.model.specs.Page.{Call, put, open_nest, close, strike, State, accepted}
use Rattle.model.specs.Runs.{Turn, call_of, after, answer}

-- what stands in an action: an attribute, or a nest of options
pub data ActionItem : Type 0 where
  leaf : Attribute → ActionItem
  nest : (word : ℕ) → List Attribute → ActionItem

-- an action: a nest of those
pub record CardAction : Type 0 where
  pub word : ℕ
  pub items : List ActionItem

-- what stands on the page: an attribute, or a nest of actions
pub data PageItem : Type 0 where
  leaf : Attribute → PageItem
  nest : (word : ℕ) → List CardAction → PageItem

-- the page's list, and for each open nest its word and list
pub data Card : Type 0 where
  level0 : List PageItem → Card
  level1 : List PageItem → ℕ → List CardAction → Card
  level2 : List PageItem → ℕ → List CardAction → ℕ → List ActionItem → Card
  level3 : List PageItem → ℕ → List CardAction → ℕ → List ActionItem → ℕ → List Attribute → Card

abbrev pub card_action : ℕ → List ActionItem → CardAction
card_action w l = record { word = w; items = l }

-- A card is fed a call and whether it was accepted. (At level 1 no put is accepted, and at level 3 no opening.)
abbrev pub feed : Card → Call → Bool → Card
feed k c false = k
feed (level0 l) (put w x) true = level0 (l ++ PageItem.leaf (attribute w x) ∷ [])
feed (level0 l) (open_nest t) true = level1 l t []
feed (level0 l) close true = level0 l
feed (level0 l) strike true = level0 l
feed (level1 l v ds) (put w x) true = level1 l v ds
feed (level1 l v ds) (open_nest t) true = level2 l v ds t []
feed (level1 l v ds) close true = level0 (l ++ PageItem.nest v ds ∷ [])
feed (level1 l v ds) strike true = level0 l
feed (level2 l v ds u is) (put w x) true = level2 l v ds u (is ++ ActionItem.leaf (attribute w x) ∷ [])
feed (level2 l v ds u is) (open_nest t) true = level3 l v ds u is (0x8000 + t) []
feed (level2 l v ds u is) close true = level1 l v (ds ++ card_action u is ∷ [])
feed (level2 l v ds u is) strike true = level1 l v ds
feed (level3 l v ds u is o os) (put w x) true = level3 l v ds u is o (os ++ attribute w x ∷ [])
feed (level3 l v ds u is o os) (open_nest t) true = level3 l v ds u is o os
feed (level3 l v ds u is o os) close true = level2 l v ds u (is ++ ActionItem.nest o os ∷ [])
feed (level3 l v ds u is o os) strike true = level2 l v ds u is

module _ (m : Meaning) where
  abbrev pub card_from : Card → State → List Turn → Card
  card_from k s [] = k
  card_from k s (t ∷ ts) = card_from (feed k (call_of t) (accepted (answer m s t))) (after m s t) ts

  abbrev pub card_of : State → List Turn → Card
  card_of s ts = card_from (level0 []) s ts

-- ── its bytes ──
abbrev pub action_item_attribute : ActionItem → Attribute
action_item_attribute (leaf a) = a
action_item_attribute (nest w l) = attribute w (encode_all l)

abbrev pub action_items_bytes : List ActionItem → Bytes
action_items_bytes l = encode_all (map action_item_attribute l)

abbrev pub card_action_attribute : CardAction → Attribute
card_action_attribute d = attribute d.word (action_items_bytes d.items)

abbrev pub card_actions_bytes : List CardAction → Bytes
card_actions_bytes l = encode_all (map card_action_attribute l)

abbrev pub page_action_item_attribute : PageItem → Attribute
page_action_item_attribute (leaf a) = a
page_action_item_attribute (nest w l) = attribute w (card_actions_bytes l)

abbrev pub page_items_bytes : List PageItem → Bytes
page_items_bytes l = encode_all (map page_action_item_attribute l)

abbrev pub card_bytes : Card → Bytes
card_bytes (level0 l) = page_items_bytes l
card_bytes (level1 l v ds) = page_items_bytes l ++ (head 0 v ++ card_actions_bytes ds)
card_bytes (level2 l v ds u is) = (page_items_bytes l ++ (head 0 v ++ card_actions_bytes ds)) ++ (head 0 u ++ action_items_bytes is)
card_bytes (level3 l v ds u is o os) = ((page_items_bytes l ++ (head 0 v ++ card_actions_bytes ds)) ++ (head 0 u ++ action_items_bytes is)) ++ (head 0 o ++ encode_all os)

abbrev pub page_list : Card → List PageItem
page_list (level0 l) = l
page_list (level1 l v ds) = l
page_list (level2 l v ds u is) = l
page_list (level3 l v ds u is o os) = l

abbrev pub open_nests : Card → ℕ
open_nests (level0 l) = 0
open_nests (level1 l v ds) = 1
open_nests (level2 l v ds u is) = 2
open_nests (level3 l v ds u is o os) = 3

-- the place of the outermost open head
abbrev pub outermost : Card → ℕ
outermost k = length (page_items_bytes (page_list k))
