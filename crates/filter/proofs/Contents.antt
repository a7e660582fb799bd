-- What an option or attribute holds reads as the model reads it. Assumes nothing.
use Rattle.std.proofs.Common.{◌≡◌, ℕ, ◌+◌, List, [], ◌∷◌, ◌++◌, map, length, IfOk, Ok, Err, Result, sym, refl, ap, ◌∙◌, arith}
use Rattle.model.specs.Numbers.{Bytes}
use Rattle.model.specs.Attributes.{Attribute, attribute, encode, encode_all}
use Rattle.model.specs.Faults.{numbers, Read, ◌>>=◌}
use Rattle.model.specs.Walk.{Walked, done, bad, item, walk}
use Rattle.model.specs.Book.{Meaning}
use Rattle.model.specs.Counts.{sum_of, options_in}
use Rattle.model.specs.Reading.{ActionAttribute, options, Action, FilterOption, actions, each, as_read, read_attribute, read_action, read_option}
use Rattle.model.specs.Writing.{write_action}
use Rattle.model.specs.declared.fault.Fault.{Fault}
use Rattle.model.specs.declared.fault.Layer.{Layer}
use Rattle.payload.specs.Errors.{placed}
use Rattle.payload.specs.declared.error.DecodeError.{DecodeError}
use Rattle.netlink.specs.declared.buffer.NlaBuffer.{NlaBuffer}
use Rattle.tc_filter.specs.ActionAttributes as attributes
use Rattle.tc_filter.specs.ActionAttributes.{attribute_meant}
use Rattle.tc_filter.specs.FilterOptions as filter-options
use Rattle.tc_filter.specs.FilterOptions.{option_meant}
use Rattle.tc_filter.specs.declared.action_attribute.TcActionAttribute.{TcActionAttribute}
use Rattle.tc_filter.specs.declared.action_attribute.TcActionAttribute.TheVariants as attr
use Rattle.tc_filter.specs.declared.cls_u32.TcFilterU32Option.{TcFilterU32Option}
use Rattle.tc_filter.specs.declared.cls_u32.TcFilterU32Option.TheVariants as option
use Rattle.filter.specs.declared.tally.Tally.{Tally}
use Rattle.filter.specs.Summaries.{Summary, total, of_attribute, of_action, of_option, of_action_option, attribute_summary, option_summary}
use Rattle.tc_filter.specs.Leaves.{attribute_content, option_content}
use Rattle.filter.specs.Nests.{none, items_of, options_of, written_row, around, read_in_attribute, read_in_option}

-- reading in summary is reading, and then the summary of each
pub each_mapped : {A : Type 0} (layer : ℕ) (f : ℕ → ℕ → Bytes → Read A) (s : A → Summary) (w : Walked) →
    each layer (λ p v x. f p v x >>= λ a. Ok (s a)) w ≡ (each layer f w >>= λ l. Ok (map s l))
each_mapped layer f s done = refl
each_mapped layer f s (bad c p) = refl
each_mapped layer f s (item p v x r) = go s (f p v x) (each layer f r) _ (each_mapped layer f s r)
  where
    go : {A : Type 0} (s : A → Summary) (q : Read A) (k : Read (List A)) (j : Read (List Summary)) → j ≡ (k >>= λ l. Ok (map s l)) →
        ((q >>= λ a. Ok (s a)) >>= λ b. j >>= λ l. Ok (b ∷ l)) ≡ ((q >>= λ a. k >>= λ l. Ok (a ∷ l)) >>= λ l. Ok (map s l))
    go s (Err e) k j h = refl
    go s (Ok a) (Err e) j h = rw h
    go s (Ok a) (Ok l) j h = rw h

-- the written row, and its numbers
pub row_of : {A : Type 0} (s : A → Summary) (w : A → Attribute) → ((a : A) → (s a).written ≡ w a) → (l : List A) → written_row (map s l) ≡ encode_all (map w l)
row_of s w h [] = refl
row_of s w h (a ∷ l) = rw (h a, row_of s w h l)

pub items_are : {A : Type 0} (s : A → Summary) (l : List A) → items_of (total (map s l)) ≡ length l
items_are s [] = refl
items_are s (a ∷ l) = let h : items_of (total (map s l)) ≡ length l = items_are s l in omega arith

pub options_are : {A : Type 0} (s : A → Summary) (n : A → ℕ) → ((a : A) → (s a).action_options ≡ n a) → (l : List A) → options_of (total (map s l)) ≡ sum_of n l
options_are s n h [] = refl
options_are s n h (a ∷ l) = let i = h a in let j = options_are s n h l in omega arith

-- a row that is read, with the attribute around it
module _ {A B : Type 0} (layer : ℕ) (f : ℕ → ℕ → Bytes → Read A) (s : A → Summary) (w : ℕ) (α β : Tally → ℕ) (b : List A → B) (t : B → Summary) (same : (l : List A) → around w α β (map s l) ≡ t (b l)) where
  around_by : (k : Read (List A)) → ((k >>= λ l. Ok (map s l)) >>= λ l. Ok (around w α β l)) ≡ ((k >>= λ l. Ok (b l)) >>= λ y. Ok (t y))
  around_by (Ok l) = ap (λ (z : Summary). Ok z) (same l)
  around_by (Err e) = refl

  pub around-read : (v : Walked) → (each layer (λ p u x. f p u x >>= λ a. Ok (s a)) v >>= λ l. Ok (around w α β l)) ≡ ((each layer f v >>= λ l. Ok (b l)) >>= λ y. Ok (t y))
  around-read v = ap (λ (k : Read (List Summary)). k >>= λ l. Ok (around w α β l)) (each_mapped layer f s v) ∙ around_by (each layer f v)

options-around : (l : List Attribute) → around 0x8002 none items_of (map of_action_option l) ≡ of_attribute (options l)
options-around l = λ i. record { written = attribute 0x8002 (row i); actions = 0; action_options = items_are of_action_option l i }
  where
    row : written_row (map of_action_option l) ≡ encode_all l
    row = go l
      where
        go : (l : List Attribute) → written_row (map of_action_option l) ≡ encode_all l
        go [] = refl
        go (a ∷ l) = ap (λ (r : Bytes). encode a ++ r) (go l)

module _ (m : Meaning) (k : Bytes) where
  attribute-holds : (v : TcActionAttribute) → read_in_attribute m k (attribute_content v) ≡ (attributes.read_on m k (attribute_meant v) >>= λ a. Ok (of_attribute a))
  attribute-holds (attr.Kind t) = refl
  attribute-holds (attr.Options b) = around-read 4 (λ q v y. as_read q (m k v y)) of_action_option 0x8002 none items_of options of_attribute options-around (walk (b.place + 4) b.value.now)
  attribute-holds (attr.Index n) = refl
  attribute-holds (attr.Stats x) = refl
  attribute-holds (attr.Cookie x) = refl
  attribute-holds (attr.InHwCount n) = refl
  attribute-holds (attr.Other a) = refl

  pub attribute_reads_inside : (p w : ℕ) (x : Bytes) (r : Result TcActionAttribute DecodeError) (q : Result TcActionAttribute Fault) → attributes.attribute_reads m k p r ≡ read_attribute m k p w x → q ≡ placed r p Layer.ActionAttribute →
      (v : TcActionAttribute) → q ≡ Ok v → read_in_attribute m k (attribute_content v) ≡ attribute_summary m k p w x
  attribute_reads_inside p w x (Ok u) q e h v i =
      let same : u ≡ v = cc in
      ap (λ (y : TcActionAttribute). read_in_attribute m k (attribute_content y)) (sym same) ∙ attribute-holds u ∙ ap (λ (y : Read ActionAttribute). y >>= λ a. Ok (of_attribute a)) e
  attribute_reads_inside p w x (Err d) q e h v i = let z : ◌≡◌ {A = ℕ} 0 1 = cc in absurd (omega arith)

  pub attribute-refused : (p w : ℕ) (x : Bytes) (r : Result TcActionAttribute DecodeError) (q : Result TcActionAttribute Fault) → attributes.attribute_reads m k p r ≡ read_attribute m k p w x → q ≡ placed r p Layer.ActionAttribute →
      (f : Fault) → q ≡ Err f → Err (numbers f) ≡ attribute_summary m k p w x
  attribute-refused p w x (Ok u) q e h f i = cc
  attribute-refused p w x (Err d) q e h f i =
      let same : f ≡ record { cause = d.cause; place = p; layer = Layer.ActionAttribute; need = d.need; number = 0 } = cc in
      ap (λ (y : Fault). Err (numbers y)) same ∙ ap (λ (y : Read ActionAttribute). y >>= λ a. Ok (of_attribute a)) e

actions-around : (l : List Action) → around 7 items_of options_of (map of_action l) ≡ of_option (actions l)
actions-around l = λ i. record {
  written = attribute 7 (row_of of_action write_action (λ a. refl) l i);
  actions = items_are of_action l i;
  action_options = options_are of_action (λ a. sum_of options_in a.attributes) (λ a. refl) l i;
}

module _ (m : Meaning) where
  option-holds : (b : NlaBuffer) (v : TcFilterU32Option) → filter-options.PartOf b v → read_in_option m (option_content v) ≡ (filter-options.read_on m (option_meant v) >>= λ o. Ok (of_option o))
  option-holds b (option.ClassId h) p = refl
  option-holds b (option.Hash n) p = refl
  option-holds b (option.Link n) p = refl
  option-holds b (option.Divisor n) p = refl
  option-holds b (option.Selector s) p = ap (λ (x : Bytes). Ok (of_action_option (attribute 5 x))) p.0
  option-holds b (option.Police x) p = refl
  option-holds b (option.Action a) p = around-read 2 (read_action m) of_action 7 items_of options_of actions of_option actions-around (walk (a.place + 4) a.value.now)
  option-holds b (option.Indev x) p = refl
  option-holds b (option.Pnct x) p = refl
  option-holds b (option.Mark x) p = refl
  option-holds b (option.Flags n) p = refl
  option-holds b (option.Other a) p = refl

  pub option_reads_inside : (b : NlaBuffer) (r : Result TcFilterU32Option DecodeError) (q : Result TcFilterU32Option Fault) → filter-options.option_reads m b.place r ≡ read_option m b.place b.word b.value.now →
      IfOk r (filter-options.PartOf b) → q ≡ placed r b.place Layer.FilterOption → (v : TcFilterU32Option) → q ≡ Ok v → read_in_option m (option_content v) ≡ option_summary m b.place b.word b.value.now
  option_reads_inside b (Ok u) q e p h v i =
      let same : u ≡ v = cc in
      ap (λ (y : TcFilterU32Option). read_in_option m (option_content y)) (sym same) ∙ option-holds b u p ∙ ap (λ (y : Read FilterOption). y >>= λ o. Ok (of_option o)) e
  option_reads_inside b (Err d) q e p h v i = let z : ◌≡◌ {A = ℕ} 0 1 = cc in absurd (omega arith)

  pub option-refused : (b : NlaBuffer) (r : Result TcFilterU32Option DecodeError) (q : Result TcFilterU32Option Fault) → filter-options.option_reads m b.place r ≡ read_option m b.place b.word b.value.now →
      q ≡ placed r b.place Layer.FilterOption → (f : Fault) → q ≡ Err f → Err (numbers f) ≡ option_summary m b.place b.word b.value.now
  option-refused b (Ok u) q e h f i = cc
  option-refused b (Err d) q e h f i =
      let same : f ≡ record { cause = d.cause; place = b.place; layer = Layer.FilterOption; need = d.need; number = 0 } = cc in
      ap (λ (y : Fault). Err (numbers y)) same ∙ ap (λ (y : Read FilterOption). y >>= λ o. Ok (of_option o)) e
