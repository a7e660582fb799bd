-- Whether bytes read, and as what, does not depend on the place where they stand. Assumes nothing.
use Rattle.std.proofs.Common.{◌≡◌, ℕ, zero, suc, ◌+◌, ◌-◌, ◌/◌, ◌%◌, Bool, true, false, cond, eqb, ltb, List, [], ◌∷◌, length, get_or, drop, Ok, Err, refl, ap, ◌∙◌, subst}
use Rattle.model.specs.Numbers.{Bytes, number}
use Rattle.model.specs.Faults.{Read, ◌>>=◌, FaultNumbers, fault, needing}
use Rattle.model.specs.Attributes.{rounded, type_of}
use Rattle.model.specs.Walk.{Walked, done, bad, item, walk_in, walk}
use Rattle.model.specs.Text.{is_text, stripped}
use Rattle.model.specs.Selector.{wanted, decode}
use Rattle.model.specs.Book.{Meaning, Answer, accept, refuse}
use Rattle.model.specs.Reading.{each, u32, text, read_selector, as_read, kind, options, AttributeForm, attribute_forms, read_as, read_attribute, kinds, the_kind, read_action, OptionForm, option_forms, class_id, selector, actions, read_option_as, read_option}
use Rattle.model.proofs.Each.{err-not-ok, chain}

abbrev pub Alike : Walked → Walked → Type 0
Alike done done = Unit {0}
Alike done (bad c p) = ⊥
Alike done (item p w x r) = ⊥
Alike (bad c p) done = ⊥
Alike (bad c p) (bad d q) = Unit {0}
Alike (bad c p) (item q w x r) = ⊥
Alike (item p w x r) done = ⊥
Alike (item p w x r) (bad d q) = ⊥
Alike (item p w x r) (item q v y s) = (w ≡ v) × (x ≡ y) × Alike r s

alike-test : (t u : Bool) (p q : ℕ) (r s : Walked) → Alike r s → Alike (elim t [ true ↦ bad 7 p | false ↦ elim u [ true ↦ bad 8 p | false ↦ r ] ]) (elim t [ true ↦ bad 7 q | false ↦ elim u [ true ↦ bad 8 q | false ↦ s ] ])
alike-test true u p q r s h = tt
alike-test false true p q r s h = tt
alike-test false false p q r s h = h

pub walk-alike : (n p q : ℕ) (bs : Bytes) → Alike (walk_in n p bs) (walk_in n q bs)
walk-alike zero p q bs = tt
walk-alike (suc n) p q [] = tt
walk-alike (suc n) p q (a ∷ []) = tt
walk-alike (suc n) p q (a ∷ b ∷ []) = tt
walk-alike (suc n) p q (a ∷ b ∷ c ∷ []) = tt
walk-alike (suc n) p q (a ∷ b ∷ c ∷ d ∷ rest) =
    let len : ℕ = number (a ∷ b ∷ []) in
    alike-test (ltb (4 + length rest) len) (ltb len 4) p q _ _ (refl, refl, walk-alike n (p + rounded len) (q + rounded len) (drop (rounded len - 4) rest))

-- Ok at r gives the same Ok at s
abbrev pub Also : {A : Type 0} → Read A → Read A → Type 0
Also {A} r s = (a : A) → r ≡ Ok a → s ≡ Ok a

abbrev pub Placeless : {A : Type 0} → (ℕ → ℕ → Bytes → Read A) → Type 0
Placeless f = (p q w : ℕ) (x : Bytes) → Also (f p w x) (f q w x)

pub also_test : {A : Type 0} (t : Bool) (e e' : FaultNumbers) (r : Read A) → Also (cond t r (Err e)) (cond t r (Err e'))
also_test true e e' r a q = q
also_test false e e' r a q = err-not-ok e a q

pub also_unless : {A : Type 0} (t : Bool) (e e' : FaultNumbers) (r s : Read A) → Also r s → Also (cond t (Err e) r) (cond t (Err e') s)
also_unless true e e' r s h a q = err-not-ok e a q
also_unless false e e' r s h a q = h a q

pub also_then : {A B : Type 0} (r s : Read A) (f g : A → Read B) → Also r s → ((a : A) → Also (f a) (g a)) → Also (r >>= f) (s >>= g)
also_then r s f g h k b q = let d = chain r f q in ap (λ z. z >>= g) (h d.0 d.1.0) ∙ k d.0 b d.1.1

pub also_same : {A : Type 0} (r : Read A) → Also r r
also_same r a q = q

module _ {A : Type 0} (layer : ℕ) (f : ℕ → ℕ → Bytes → Read A) (h : Placeless f) where
  pub each-alike : (k s : Walked) → Alike k s → Also (each layer f k) (each layer f s)
  each-alike done done z a q = q
  each-alike done (bad c p) z a e = absurd z
  each-alike done (item p w x r) z a e = absurd z
  each-alike (bad c p) done z a e = absurd z
  each-alike (bad c p) (bad d q) z a e = err-not-ok _ a e
  each-alike (bad c p) (item q w x r) z a e = absurd z
  each-alike (item p w x r) done z a e = absurd z
  each-alike (item p w x r) (bad d q) z a e = absurd z
  each-alike (item p w x r) (item q v y s) z a e =
      also_then (f p w x) (f q v y) (λ b. each layer f r >>= λ l. Ok (b ∷ l)) (λ b. each layer f s >>= λ l. Ok (b ∷ l))
      (subst (λ (u : ℕ). Also (f p w x) (f q u y)) z.0 (subst (λ (u : Bytes). Also (f p w x) (f q w u)) z.1 (h p q w x)))
      (λ b. also_then (each layer f r) (each layer f s) (λ l. Ok (b ∷ l)) (λ l. Ok (b ∷ l)) (each-alike r s z.2) (λ l. also_same (Ok (b ∷ l)))) a e

pub text_also : (p q layer : ℕ) (x : Bytes) → Also (text p layer x) (text q layer x)
text_also p q layer x = also_test (is_text (stripped x)) (fault 9 p layer) (fault 9 q layer) (Ok (stripped x))

u32_also : (p q layer : ℕ) (x : Bytes) → Also (u32 p layer x) (u32 q layer x)
u32_also p q layer x = also_test (eqb (length x) 4) (needing 12 p layer 4) (needing 12 q layer 4) (Ok (number x))

selector_also : (p q : ℕ) (x : Bytes) → Also (read_selector p x) (read_selector q x)
selector_also p q x =
    also_unless (ltb (length x) 16) (needing 13 p 1 16) (needing 13 q 1 16) _ _
    (also_unless (ltb (length x) (wanted x)) (needing 13 p 1 (wanted x)) (needing 13 q 1 (wanted x)) (Ok (decode x)) (Ok (decode x)) (also_same (Ok (decode x))))

pub as_read_also : (p q : ℕ) (o : Answer) → Also (as_read p o) (as_read q o)
as_read_also p q (accept w x) a e = e
as_read_also p q (refuse n d) a e = err-not-ok _ a e

kinds-test : (t : Bool) (p q : ℕ) (x : Bytes) (r s : Walked) → Also (kinds r) (kinds s) →
    Also (elim t [ true ↦ text p 3 x >>= (λ t. kinds r >>= λ l. Ok (t ∷ l)) | false ↦ kinds r ]) (elim t [ true ↦ text q 3 x >>= (λ t. kinds s >>= λ l. Ok (t ∷ l)) | false ↦ kinds s ])
kinds-test true p q x r s h = also_then (text p 3 x) (text q 3 x) _ _ (text_also p q 3 x) (λ t. also_then (kinds r) (kinds s) _ _ h (λ l. also_same (Ok (t ∷ l))))
kinds-test false p q x r s h = h

pub kinds-alike : (k s : Walked) → Alike k s → Also (kinds k) (kinds s)
kinds-alike done done z a q = q
kinds-alike done (bad c p) z a e = absurd z
kinds-alike done (item p w x r) z a e = absurd z
kinds-alike (bad c p) done z a e = absurd z
kinds-alike (bad c p) (bad d q) z a e = err-not-ok _ a e
kinds-alike (bad c p) (item q w x r) z a e = absurd z
kinds-alike (item p w x r) done z a e = absurd z
kinds-alike (item p w x r) (bad d q) z a e = absurd z
kinds-alike (item p w x r) (item q v y s) z a e =
    subst (λ (u : ℕ). Also (kinds (item p w x r)) (kinds (item q u y s))) z.0
    (subst (λ (u : Bytes). Also (kinds (item p w x r)) (kinds (item q w u s))) z.1 (kinds-test (eqb (type_of w) 1) p q x r s (kinds-alike r s z.2))) a e

pub the_kind_also : (p q : ℕ) (l : List Bytes) → Also (the_kind p l) (the_kind q l)
the_kind_also p q [] a e = err-not-ok _ a e
the_kind_also p q (t ∷ []) a e = e
the_kind_also p q (t ∷ u ∷ l) a e = err-not-ok _ a e

module _ (m : Meaning) where
  as_also : (f : AttributeForm) (k : Bytes) (p q w : ℕ) (x : Bytes) → Also (read_as m f k p w x) (read_as m f k q w x)
  as_also AttributeForm.as_kind k p q w x = also_then (text p 3 x) (text q 3 x) _ _ (text_also p q 3 x) (λ t. also_same (Ok (kind t)))
  as_also AttributeForm.as_options k p q w x =
      also_then _ _ _ _ (each-alike 4 (λ q v y. as_read q (m k v y)) (λ p q v y. as_read_also p q (m k v y)) (walk (p + 4) x) (walk (q + 4) x) (walk-alike (length x) (p + 4) (q + 4) x)) (λ l. also_same (Ok (options l)))
  as_also AttributeForm.as_default k p q w x = also_same _
  as_also (AttributeForm.as_u32 f) k p q w x = also_then (u32 p 3 x) (u32 q 3 x) _ _ (u32_also p q 3 x) (λ n. also_same (Ok (f n)))
  as_also (AttributeForm.as_raw f) k p q w x = also_same _

  pub attribute_placeless : (k : Bytes) → Placeless (read_attribute m k)
  attribute_placeless k p q w x = as_also (get_or attribute_forms (type_of w) AttributeForm.as_default) k p q w x

  pub action_placeless : Placeless (read_action m)
  action_placeless p q w x =
      also_then _ _ _ _ (kinds-alike (walk (p + 4) x) (walk (q + 4) x) (walk-alike (length x) (p + 4) (q + 4) x))
      (λ l. also_then _ _ _ _ (the_kind_also p q l)
      (λ k. also_then _ _ _ _ (each-alike 3 (read_attribute m k) (attribute_placeless k) (walk (p + 4) x) (walk (q + 4) x) (walk-alike (length x) (p + 4) (q + 4) x))
      (λ as'. also_same (Ok (record { tab = type_of w; kind_text = k; attributes = as' })))))

  option_also : (f : OptionForm) (p q w : ℕ) (x : Bytes) → Also (read_option_as m f p w x) (read_option_as m f q w x)
  option_also OptionForm.as_class_id p q w x = also_then (u32 p 1 x) (u32 q 1 x) _ _ (u32_also p q 1 x) (λ n. also_same (Ok (class_id (n / 65536) (n % 65536))))
  option_also OptionForm.as_selector p q w x = also_then _ _ _ _ (selector_also p q x) (λ s. also_same (Ok (selector s)))
  option_also OptionForm.as_actions p q w x = also_then _ _ _ _ (each-alike 2 (read_action m) action_placeless (walk (p + 4) x) (walk (q + 4) x) (walk-alike (length x) (p + 4) (q + 4) x)) (λ l. also_same (Ok (actions l)))
  option_also OptionForm.as_default p q w x = also_same _
  option_also (OptionForm.as_u32 f) p q w x = also_then (u32 p 1 x) (u32 q 1 x) _ _ (u32_also p q 1 x) (λ n. also_same (Ok (f n)))
  option_also (OptionForm.as_raw f) p q w x = also_same _

  pub option_placeless : Placeless (read_option m)
  option_placeless p q w x = option_also (get_or option_forms (type_of w) OptionForm.as_default) p q w x
