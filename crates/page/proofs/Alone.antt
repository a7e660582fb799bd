-- An attribute that reads by itself: no list of actions and no list of options, so no book is asked. Assumes nothing.
use Rattle.std.proofs.Common.{◌≡◌, ℕ, zero, suc, ◌+◌, ◌/◌, ◌%◌, ◌<◌, ◌≤◌, Bool, true, false, cond, eqb, ltb, List, [], ◌∷◌, length, get_or, Ok, Err, Result, sym, refl, ap, ◌∙◌, subst, arith}
use Rattle.model.specs.Numbers.{Bytes}
use Rattle.model.specs.Attributes.{type_of}
use Rattle.model.specs.Faults.{numbers, Read, ◌>>=◌}
use Rattle.model.specs.Text.{is_text, stripped}
use Rattle.model.specs.Walk.{Walked, done, bad, item, walk}
use Rattle.model.specs.Book.{Answer, accept, refuse, Meaning}
use Rattle.model.specs.Page.{only_fault}
use Rattle.model.specs.Selector.{wanted}
use Rattle.model.specs.Reading.{FilterOption, ActionAttribute, each, u32, text, read_selector, as_read, AttributeForm, as_kind, as_options, as_default, as_u32, as_raw, attribute_forms, read_as, read_attribute, kinds, the_kind, OptionForm, option_forms, read_action, read_option_as, read_option}
use Rattle.model.specs.declared.fault.Fault.{Fault}
use Rattle.model.specs.declared.fault.Layer.{Layer}
use Rattle.payload.specs.Errors.{placed}
use Rattle.payload.specs.declared.error.DecodeError.{DecodeError}
use Rattle.tc_filter.specs.FilterOptions as options
use Rattle.tc_filter.specs.ActionAttributes as attributes
use Rattle.tc_filter.specs.declared.cls_u32.TcFilterU32Option.{TcFilterU32Option}
use Rattle.tc_filter.specs.declared.action_attribute.TcActionAttribute.{TcActionAttribute}

-- ── the layers of faults: below n, and n or above ──
abbrev Deep : {A : Type 0} → ℕ → Read A → Type 0
Deep n (Ok a) = Unit {0}
Deep n (Err e) = n < e.layer

abbrev Shallow : {A : Type 0} → ℕ → Read A → Type 0
Shallow n (Ok a) = Unit {0}
Shallow n (Err e) = e.layer ≤ n

both : {A : Type 0} (n : ℕ) (r : Read A) → Deep n r → Shallow n r → Ok tt ≡ only_fault r
both n (Ok a) d s = refl
both n (Err e) d s = absurd (omega arith)

deep_then : {A B : Type 0} (n : ℕ) (r : Read A) (f : A → Read B) → Deep n r → ((a : A) → Deep n (f a)) → Deep n (r >>= f)
deep_then n (Ok a) f h k = k a
deep_then n (Err e) f h k = h

shallow_then : {A B : Type 0} (n : ℕ) (r : Read A) (f : A → Read B) → Shallow n r → ((a : A) → Shallow n (f a)) → Shallow n (r >>= f)
shallow_then n (Ok a) f h k = k a
shallow_then n (Err e) f h k = h

deep_if : {A : Type 0} (n : ℕ) (b : Bool) (r s : Read A) → Deep n r → Deep n s → Deep n (cond b r s)
deep_if n true r s h k = h
deep_if n false r s h k = k

shallow_if : {A : Type 0} (n : ℕ) (b : Bool) (r s : Read A) → Shallow n r → Shallow n s → Shallow n (cond b r s)
shallow_if n true r s h k = h
shallow_if n false r s h k = k

deep_each : {A : Type 0} (n layer : ℕ) (f : ℕ → ℕ → Bytes → Read A) → n < layer → ((p w : ℕ) (x : Bytes) → Deep n (f p w x)) → (w : Walked) → Deep n (each layer f w)
deep_each n layer f h k done = tt
deep_each n layer f h k (bad c p) = h
deep_each n layer f h k (item p w x r) =
    deep_then n (f p w x) _ (k p w x) (λ a. deep_then n (each layer f r) _ (deep_each n layer f h k r) (λ l. tt))

deep_judged : (n p : ℕ) (a : Answer) → n < 4 → Deep n (as_read p a)
deep_judged n p (accept w x) h = tt
deep_judged n p (refuse number need) h = h

deep_text : (n p : ℕ) (x : Bytes) → n < 3 → Deep n (text p 3 x)
deep_text n p x h = deep_if n (is_text (stripped x)) _ _ tt h

deep_number : (n p : ℕ) (x : Bytes) → n < 3 → Deep n (u32 p 3 x)
deep_number n p x h = deep_if n (eqb (length x) 4) _ _ tt h

deep_kinds : (w : Walked) → Deep 1 (kinds w)
deep_kinds done = tt
deep_kinds (bad c p) = omega arith
deep_kinds (item p w x r) = by (eqb (type_of w) 1) (deep_kinds r)
  where
    by : (b : Bool) → Deep 1 (kinds r) → Deep 1 (elim b [ true ↦ text p 3 x >>= (λ t. kinds r >>= λ l. Ok (t ∷ l)) | false ↦ kinds r ])
    by true h = deep_then 1 (text p 3 x) _ (deep_text 1 p x (omega arith)) (λ t. deep_then 1 (kinds r) _ h (λ l. tt))
    by false h = h

deep_kind : (p : ℕ) (l : List Bytes) → Deep 1 (the_kind p l)
deep_kind p [] = omega arith
deep_kind p (t ∷ []) = tt
deep_kind p (t ∷ u ∷ l) = omega arith

module _ (m : Meaning) where
  deep_options : (n : ℕ) (k : Bytes) (w : Walked) → n < 4 → Deep n (each 4 (λ q v y. as_read q (m k v y)) w)
  deep_options n k w h = deep_each n 4 (λ q v y. as_read q (m k v y)) h (λ q v y. deep_judged n q (m k v y) h) w

  deep_as : (f : AttributeForm) (k : Bytes) (p w : ℕ) (x : Bytes) → Deep 1 (read_as m f k p w x)
  deep_as as_kind k p w x = deep_then 1 (text p 3 x) _ (deep_text 1 p x (omega arith)) (λ t. tt)
  deep_as as_options k p w x = deep_then 1 (each 4 (λ q v y. as_read q (m k v y)) (walk (p + 4) x)) _ (deep_options 1 k (walk (p + 4) x) (omega arith)) (λ l. tt)
  deep_as as_default k p w x = tt
  deep_as (as_u32 f) k p w x = deep_then 1 (u32 p 3 x) _ (deep_number 1 p x (omega arith)) (λ n. tt)
  deep_as (as_raw f) k p w x = tt

  deep_action : (p w : ℕ) (x : Bytes) → Deep 1 (read_action m p w x)
  deep_action p w x =
      deep_then 1 (kinds (walk (p + 4) x)) _ (deep_kinds (walk (p + 4) x)) (λ l.
      deep_then 1 (the_kind p l) _ (deep_kind p l) (λ k.
      deep_then 1 (each 3 (read_attribute m k) (walk (p + 4) x)) _
      (deep_each 1 3 (read_attribute m k) (omega arith) (λ q v y. deep_as (get_or attribute_forms (type_of v) as_default) k q v y) (walk (p + 4) x)) (λ as'. tt)))

  -- ── a filter's option ──
  deep_option : (o : options.OptionRead) → Deep 1 (options.read_on m o)
  deep_option (options.whole o) = tt
  deep_option (options.list_at p x) =
      deep_then 1 (each 2 (read_action m) (walk (p + 4) x)) _ (deep_each 1 2 (read_action m) (omega arith) deep_action (walk (p + 4) x)) (λ l. tt)

  module _ (p w : ℕ) (x : Bytes) where
    shallow_number : {A : Type 0} (n : ℕ) (f : ℕ → A) → Shallow n (u32 p n x >>= λ k. Ok (f k))
    shallow_number n f = shallow_then n (u32 p n x) _ (shallow_if n (eqb (length x) 4) _ _ tt (omega arith)) (λ k. tt)

    shallow_option : (t : ℕ) → (t ≡ 7 → ⊥) → Shallow 1 (read_option_as m (get_or option_forms t OptionForm.as_default) p w x)
    shallow_option zero h = tt
    shallow_option (suc zero) h = shallow_number 1 (λ n. FilterOption.class_id (n / 65536) (n % 65536))
    shallow_option (suc (suc zero)) h = shallow_number 1 FilterOption.hash
    shallow_option (suc (suc (suc zero))) h = shallow_number 1 FilterOption.link
    shallow_option (suc (suc (suc (suc zero)))) h = shallow_number 1 FilterOption.divisor
    shallow_option (suc (suc (suc (suc (suc zero))))) h =
        shallow_then 1 (read_selector p x) _ (shallow_if 1 (ltb (length x) 16) _ _ (omega arith) (shallow_if 1 (ltb (length x) (wanted x)) _ _ (omega arith) tt)) (λ s. tt)
    shallow_option (suc (suc (suc (suc (suc (suc zero)))))) h = tt
    shallow_option (suc (suc (suc (suc (suc (suc (suc zero))))))) h = absurd (h refl)
    shallow_option (suc (suc (suc (suc (suc (suc (suc (suc zero)))))))) h = tt
    shallow_option (suc (suc (suc (suc (suc (suc (suc (suc (suc zero))))))))) h = tt
    shallow_option (suc (suc (suc (suc (suc (suc (suc (suc (suc (suc zero)))))))))) h = tt
    shallow_option (suc (suc (suc (suc (suc (suc (suc (suc (suc (suc (suc zero))))))))))) h = shallow_number 1 FilterOption.flags
    shallow_option (suc (suc (suc (suc (suc (suc (suc (suc (suc (suc (suc (suc t)))))))))))) h = tt

    option_by : (r : Result TcFilterU32Option DecodeError) (o : TcFilterU32Option) → (type_of w ≡ 7 → ⊥) → placed r p Layer.FilterOption ≡ Ok o → options.option_reads m p r ≡ read_option m p w x →
        Ok tt ≡ only_fault (read_option m p w x)
    option_by (Ok a) o h q e = both 1 (read_option m p w x) (subst (λ (z : Read FilterOption). Deep 1 z) e (deep_option (options.option_meant a))) (shallow_option (type_of w) h)
    option_by (Err d) o h q e = let z : ◌≡◌ {A = ℕ} 0 1 = cc in absurd (omega arith)

    pub option_alone : (r : Result TcFilterU32Option DecodeError) (q : Result TcFilterU32Option Fault) (o : TcFilterU32Option) → (type_of w ≡ 7 → ⊥) → q ≡ placed r p Layer.FilterOption → q ≡ Ok o →
        options.option_reads m p r ≡ read_option m p w x → Ok tt ≡ only_fault (read_option m p w x)
    option_alone r q o h e f k = option_by r o h (sym e ∙ f) k

    pub option_refused : (r : Result TcFilterU32Option DecodeError) (q : Result TcFilterU32Option Fault) (f : Fault) → q ≡ placed r p Layer.FilterOption → q ≡ Err f →
        options.option_reads m p r ≡ read_option m p w x → Err (numbers f) ≡ only_fault (read_option m p w x)
    option_refused (Ok a) q f h e k = cc
    option_refused (Err d) q f h e k =
        let same : f ≡ record { cause = d.cause; place = p; layer = Layer.FilterOption; need = d.need; number = 0 } = cc in
        ap (λ (y : Fault). Err (numbers y)) same ∙ ap (only_fault {A = FilterOption}) k

    -- ── an action's attribute ──
    deep_attribute : (k : Bytes) (a : attributes.AttributeRead) → Deep 3 (attributes.read_on m k a)
    deep_attribute k (attributes.whole a) = tt
    deep_attribute k (attributes.options_at q y) = deep_then 3 (each 4 (λ q v y. as_read q (m k v y)) (walk (q + 4) y)) _ (deep_options 3 k (walk (q + 4) y) (omega arith)) (λ l. tt)

    shallow_attribute : (k : Bytes) (t : ℕ) → (t ≡ 2 → ⊥) → Shallow 3 (read_as m (get_or attribute_forms t as_default) k p w x)
    shallow_attribute k zero h = tt
    shallow_attribute k (suc zero) h = shallow_then 3 (text p 3 x) _ (shallow_if 3 (is_text (stripped x)) _ _ tt (omega arith)) (λ t. tt)
    shallow_attribute k (suc (suc zero)) h = absurd (h refl)
    shallow_attribute k (suc (suc (suc zero))) h = shallow_number 3 ActionAttribute.index
    shallow_attribute k (suc (suc (suc (suc zero)))) h = tt
    shallow_attribute k (suc (suc (suc (suc (suc zero))))) h = tt
    shallow_attribute k (suc (suc (suc (suc (suc (suc zero)))))) h = tt
    shallow_attribute k (suc (suc (suc (suc (suc (suc (suc zero))))))) h = tt
    shallow_attribute k (suc (suc (suc (suc (suc (suc (suc (suc zero)))))))) h = tt
    shallow_attribute k (suc (suc (suc (suc (suc (suc (suc (suc (suc zero))))))))) h = tt
    shallow_attribute k (suc (suc (suc (suc (suc (suc (suc (suc (suc (suc zero)))))))))) h = shallow_number 3 ActionAttribute.in_hw_count
    shallow_attribute k (suc (suc (suc (suc (suc (suc (suc (suc (suc (suc (suc t))))))))))) h = tt

    attribute_by : (k : Bytes) (r : Result TcActionAttribute DecodeError) (o : TcActionAttribute) → (type_of w ≡ 2 → ⊥) → placed r p Layer.ActionAttribute ≡ Ok o →
        attributes.attribute_reads m k p r ≡ read_attribute m k p w x → Ok tt ≡ only_fault (read_attribute m k p w x)
    attribute_by k (Ok a) o h q e =
        both 3 (read_attribute m k p w x) (subst (λ (z : Read ActionAttribute). Deep 3 z) e (deep_attribute k (attributes.attribute_meant a))) (shallow_attribute k (type_of w) h)
    attribute_by k (Err d) o h q e = let z : ◌≡◌ {A = ℕ} 0 1 = cc in absurd (omega arith)

    pub attribute_alone : (k : Bytes) (r : Result TcActionAttribute DecodeError) (q : Result TcActionAttribute Fault) (o : TcActionAttribute) → (type_of w ≡ 2 → ⊥) → q ≡ placed r p Layer.ActionAttribute → q ≡ Ok o →
        attributes.attribute_reads m k p r ≡ read_attribute m k p w x → Ok tt ≡ only_fault (read_attribute m k p w x)
    attribute_alone k r q o h e f g = attribute_by k r o h (sym e ∙ f) g

    pub attribute_refused : (k : Bytes) (r : Result TcActionAttribute DecodeError) (q : Result TcActionAttribute Fault) (f : Fault) → q ≡ placed r p Layer.ActionAttribute → q ≡ Err f →
        attributes.attribute_reads m k p r ≡ read_attribute m k p w x → Err (numbers f) ≡ only_fault (read_attribute m k p w x)
    attribute_refused k (Ok a) q f h e g = cc
    attribute_refused k (Err d) q f h e g =
        let same : f ≡ record { cause = d.cause; place = p; layer = Layer.ActionAttribute; need = d.need; number = 0 } = cc in
        ap (λ (y : Fault). Err (numbers y)) same ∙ ap (only_fault {A = ActionAttribute}) g
