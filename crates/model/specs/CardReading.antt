-- What a card reads as: the page's list one by one, and its counts. Its places are nobody's, so 0 stands for each. Assumes nothing.
use Rattle.std.specs.Prelude.{ℕ, true, false, List, [], ◌∷◌, length, Ok, ◌==◌}
use Rattle.model.specs.Numbers.{Bytes}
use Rattle.model.specs.Faults.{Read, ◌>>=◌}
use Rattle.model.specs.Attributes.{type_of}
use Rattle.model.specs.Book.{Meaning}
use Rattle.model.specs.Reading.{as_read, text, the_kind, Action, ActionAttribute, options, read_attribute, FilterOption, actions, Reading, read_option}
use Rattle.model.specs.Counts.{Counts, sum_of}
use Rattle.model.specs.Card.{ActionItem, leaf, nest, CardAction, PageItem}

abbrev pub all : {A B : Type 0} → (A → Read B) → List A → Read (List B)
all f [] = Ok []
all f (a ∷ l) = f a >>= λ b. all f l >>= λ bs. Ok (b ∷ bs)

-- the kind texts among an action's attributes
abbrev pub action_item_kinds : List ActionItem → Read (List Bytes)
action_item_kinds [] = Ok []
action_item_kinds (leaf a ∷ l) = elim (type_of a.word == 1) [ true ↦ text 0 3 a.payload >>= (λ t. action_item_kinds l >>= λ ts. Ok (t ∷ ts)) | false ↦ action_item_kinds l ]
action_item_kinds (nest w os ∷ l) = action_item_kinds l

module _ (m : Meaning) where
  abbrev pub read_action_item : (kind_text : Bytes) → ActionItem → Read ActionAttribute
  read_action_item k (leaf a) = read_attribute m k 0 a.word a.payload
  read_action_item k (nest w os) = all (λ o. as_read 0 (m k o.word o.payload)) os >>= λ l. Ok (options l)

  abbrev pub read_card_action : CardAction → Read Action
  read_card_action d =
      action_item_kinds d.items >>= λ ts. the_kind 0 ts >>= λ k. all (read_action_item k) d.items >>= λ as'.
      Ok (record { tab = type_of d.word; kind_text = k; attributes = as' })

  abbrev pub read_page_item : PageItem → Read FilterOption
  read_page_item (leaf a) = read_option m 0 a.word a.payload
  read_page_item (nest w ds) = all read_card_action ds >>= λ l. Ok (actions l)

  abbrev pub page_items_reading : List PageItem → Read Reading
  page_items_reading l = all read_page_item l

abbrev pub card_actions_in : PageItem → List CardAction
card_actions_in (leaf a) = []
card_actions_in (nest w ds) = ds

abbrev pub options_of : ActionItem → ℕ
options_of (leaf a) = 0
options_of (nest w os) = length os

abbrev pub page_items_counts : List PageItem → Counts
page_items_counts l = record {
  of_options = length l;
  of_actions = sum_of (λ e. length (card_actions_in e)) l;
  of_action_options = sum_of (λ e. sum_of (λ d. sum_of options_of d.items) (card_actions_in e)) l;
}
