-- An action read in summary: its kind first, and then its attributes. Assumes nothing.
use Rattle.std.proofs.Common.{◌≡◌, ℕ, ◌+◌, ◌≤◌, List, map, length, Ok, Err, Result, sym, refl, ap, ◌∙◌, arith}
use Rattle.model.specs.Numbers.{Bytes}
use Rattle.model.specs.Attributes.{type_of, attribute}
use Rattle.model.specs.Faults.{Read, ◌>>=◌}
use Rattle.model.specs.Walk.{Walked, walk}
use Rattle.model.specs.Book.{Meaning}
use Rattle.model.specs.Counts.{options_in}
use Rattle.model.specs.Reading.{Action, ActionAttribute, each, read_attribute, read_action}
use Rattle.model.specs.Writing.{write_attribute}
use Rattle.model.specs.declared.fault.Fault.{Fault}
use Rattle.model.proofs.Each.{ok_same}
use Rattle.netlink.specs.declared.buffer.NlaBuffer.{NlaBuffer}
use Rattle.tc_filter.specs.Kinds.{kind_found, ActionFound, action_found, action_heard, action_on}
use Rattle.tc_filter.proofs.ActionsFound.{found_reads}
use Rattle.tc_filter.specs.declared.action.TcAction.{TcAction}
use Rattle.filter.specs.Summaries.{of_attribute, of_action, attribute_summary, action_summary}
use Rattle.filter.specs.Nests.{none, options_of, around}
use Rattle.filter.proofs.Contents.{row_of, options_are, around-read}

abbrev action_with : (tab : ℕ) (kind_text : Bytes) → List ActionAttribute → Action
action_with t k l = record { tab = t; kind_text = k; attributes = l }

attributes-around : (t : ℕ) (k : Bytes) (l : List ActionAttribute) → around t none options_of (map of_attribute l) ≡ of_action (action_with t k l)
attributes-around t k l = λ i. record {
  written = attribute t (row_of of_attribute write_attribute (λ a. refl) l i);
  actions = 0;
  action_options = options_are of_attribute options_in (λ a. refl) l i;
}

module _ (b : NlaBuffer) where
  abbrev found_with : Bytes → ActionFound
  found_with k = record { tab = type_of b.word; kind_text = k; place = b.place; part = b.value.now }

  abbrev found_as : TcAction → ActionFound
  found_as a = record { tab = a.tab; kind_text = a.kind.now; place = a.attributes.place; part = a.attributes.value.now }

  found_by : (q : Read Bytes) (a : TcAction) → action_heard (Ok a) ≡ (q >>= λ k. Ok (found_with k)) → found_as a ≡ found_with a.kind.now
  found_by (Ok k) a e = ok_same e ∙ ap found_with (sym (ap (λ (f : ActionFound). f.kind_text) (ok_same e)))
  found_by (Err f) a e = let z : ◌≡◌ {A = ℕ} 0 1 = cc in absurd (omega arith)

  -- an action that was found stands where it was looked for
  found_is : (r : Result TcAction Fault) (a : TcAction) → action_heard r ≡ action_found b → r ≡ Ok a → found_as a ≡ found_with a.kind.now
  found_is r a e h = found_by (kind_found b) a (ap action_heard (sym h) ∙ e)

  -- its tab is the type in its head
  pub action-tab : (r : Result TcAction Fault) (a : TcAction) → action_heard r ≡ action_found b → r ≡ Ok a → a.tab ≡ type_of b.word
  action-tab r a e h = ap (λ (f : ActionFound). f.tab) (found_is r a e h)

  module _ (m : Meaning) (inside : b.place + (4 + length b.value.now) ≤ 65531) where
    abbrev row : Walked
    row = walk (b.place + 4) b.value.now

    reads : (r : Result TcAction Fault) → action_heard r ≡ action_found b → (action_heard r >>= action_on m) ≡ read_action m b.place b.word b.value.now
    reads r e = found_reads m b (omega (arith, inside)) r e

    -- with its kind found, an action is its attributes
    pub action-as_read : (r : Result TcAction Fault) (a : TcAction) → action_heard r ≡ action_found b → r ≡ Ok a →
        (each 3 (attribute_summary m a.kind.now) row >>= λ l. Ok (around (type_of b.word) none options_of l)) ≡ action_summary m b.place b.word b.value.now
    action-as_read r a e h =
        let k = a.kind.now in
        around-read 3 (read_attribute m k) of_attribute (type_of b.word) none options_of (action_with (type_of b.word) k) of_action (attributes-around (type_of b.word) k) row
        ∙ ap (λ (f : ActionFound). action_on m f >>= λ y. Ok (of_action y)) (sym (found_is r a e h))
        ∙ ap (λ (q : Result TcAction Fault). (action_heard q >>= action_on m) >>= λ y. Ok (of_action y)) (sym h)
        ∙ ap (λ (q : Read Action). q >>= λ y. Ok (of_action y)) (reads r e)
