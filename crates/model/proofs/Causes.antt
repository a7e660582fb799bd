-- Which causes the readers give, and how a call answers the first of its causes. Assumes nothing.
use Rattle.std.proofs.Common.{◌≡◌, ℕ, zero, suc, ◌+◌, ◌-◌, Bool, true, false, cond, ◌||◌, T, eqb, ltb, List, [], ◌∷◌, ◌++◌, map, length, get_or, drop, Ok, Err, sym, refl, ap, ◌∙◌, subst, inl, inr, eqb-true}
use borrow.Author.Tests.{eqb-false}
use Rattle.model.specs.Numbers.{Bytes, number}
use Rattle.model.specs.Faults.{Read, ◌>>=◌, FaultNumbers, fault, needing}
use Rattle.model.specs.Attributes.{type_of, rounded}
use Rattle.model.specs.Walk.{Walked, done, bad, item, walk_in, walk}
use Rattle.model.specs.Text.{is_text, stripped}
use Rattle.model.specs.Selector.{wanted, decode}
use Rattle.model.specs.Book.{Meaning, Answer, accept, refuse}
use Rattle.model.specs.Reading.{each, u32, text, read_selector, as_read, AttributeForm, attribute_forms, read_as, read_attribute, kinds, the_kind, read_action, OptionForm, option_forms, read_option_as, read_option, read_options}
use Rattle.model.specs.Page.{check}
use Rattle.model.specs.Refusals.{Ground, ground, First, found_by}
use Rattle.model.proofs.Each.{err-not-ok}

abbrev pub among : ℕ → List ℕ → Bool
among k [] = false
among k (c ∷ cs) = eqb k c || among k cs

or-more : (t u v : Bool) → (T u → T v) → T (t || u) → T (t || v)
or-more true u v h k = tt
or-more false u v h k = h k

pub among-more : (k : ℕ) (a b : List ℕ) (d : ℕ) → T (among k (a ++ b)) → T (among k (a ++ d ∷ b))
among-more k [] b d h = or_right (eqb k d) (among k b) h
  where
    or_right : (t u : Bool) → T u → T (t || u)
    or_right true u h = tt
    or_right false u h = h
among-more k (c ∷ a) b d h = or-more (eqb k c) (among k (a ++ b)) (among k (a ++ d ∷ b)) (among-more k a b d) h

-- the fault that a reader finds is its own, and one that reads finds none
err_same : {A : Type 0} {e f : FaultNumbers} → ◌≡◌ {A = Read A} (Err e) (Err f) → e ≡ f
err_same q = cc

module _ {A : Type 0} (r : Read A) (c : ℕ) where
  pub found_same : (e : FaultNumbers) → r ≡ Err e → (found_by r c).holds → e.cause ≡ c
  found_same e q h = ap (λ (f : FaultNumbers). f.cause) (err_same (sym q ∙ h.1.0)) ∙ h.1.1

  pub found_none : (a : A) → r ≡ Ok a → ¬ (found_by r c).holds
  found_none a q h = err-not-ok h.0 a (sym h.1.0 ∙ q)

-- ── the first of several causes ──
-- this cause holds, and v is the fault that it gives
abbrev pub Answers : Ground → Read (Unit {0}) → Type 0
Answers g v = (h : g.holds) × (v ≡ Err (g.gives h))

-- g does not hold and the rest answers v, or g does
unless : (g : Ground) (gs : List Ground) (v : Read (Unit {0})) (t : Bool) → (t ≡ true → Answers g v) → (t ≡ false → (¬ g.holds) × First gs v) → First (g ∷ gs) v
unless g gs v true held passed = inl (held refl)
unless g gs v false held passed = inr (passed refl)

module _ (G : ℕ → Ground) (v : Read (Unit {0})) where
  -- of several causes only k holds
  pub first_of : (k : ℕ) → Answers (G k) v → ((c : ℕ) → ¬ (k ≡ c) → ¬ (G c).holds) → (cs : List ℕ) (gs : List Ground) → T (among k cs) → First (map G cs ++ gs) v
  first_of k this others [] gs h = absurd h
  first_of k this others (c ∷ cs) gs h =
      unless (G c) (map G cs ++ gs) v (eqb k c) (λ e. subst (λ (n : ℕ). Answers (G n) v) (eqb-true k c e) this)
      (λ e. (others c (eqb-false k c e), first_of k this others cs gs (subst (λ (t : Bool). T (t || among k cs)) e h)))

  -- none of them holds
  pub none_of : ((c : ℕ) → ¬ (G c).holds) → (cs : List ℕ) (gs : List Ground) → First gs v → First (map G cs ++ gs) v
  none_of others [] gs h = h
  none_of others (c ∷ cs) gs h = inr (others c, none_of others cs gs h)

-- a check is the first cause
pub first_check : (P : Type 0) (t : Bool) (e : FaultNumbers) (gs : List Ground) (v : Read (Unit {0})) → (t ≡ false → P) → (t ≡ true → ¬ P) → (t ≡ true → First gs v) →
    First (ground P e ∷ gs) (check t e >>= λ _. v)
first_check P true e gs v held passed h = inr (passed refl, h refl)
first_check P false e gs v held passed h = inl (held refl, refl)

-- ── which causes a reader gives ──
module _ (cs : List ℕ) where
  -- a fault of r has one of the causes cs
  abbrev pub Only : {A : Type 0} → Read A → Type 0
  Only (Ok a) = Unit {0}
  Only (Err e) = T (among e.cause cs)

  pub only_then : {A B : Type 0} (r : Read A) (f : A → Read B) → Only r → ((a : A) → Only (f a)) → Only (r >>= f)
  only_then (Ok a) f h k = k a
  only_then (Err e) f h k = h

  only_cond : {A : Type 0} (t : Bool) (r s : Read A) → Only r → Only s → Only (cond t r s)
  only_cond true r s h k = h
  only_cond false r s h k = k

  abbrev Marked : Walked → Type 0
  Marked done = Unit {0}
  Marked (bad c p) = T (among c cs)
  Marked (item p w x r) = Marked r

  only_each : {A : Type 0} (layer : ℕ) (f : ℕ → ℕ → Bytes → Read A) → ((p w : ℕ) (x : Bytes) → Only (f p w x)) → (k : Walked) → Marked k → Only (each layer f k)
  only_each layer f h done s = tt
  only_each layer f h (bad c p) s = s
  only_each layer f h (item p w x r) s = only_then (f p w x) _ (h p w x) (λ a. only_then (each layer f r) _ (only_each layer f h r s) (λ l. tt))

-- the causes of an action
abbrev pub action_causes : List ℕ
action_causes = 6 ∷ 7 ∷ 8 ∷ 9 ∷ 10 ∷ 11 ∷ 12 ∷ 14 ∷ []

module _ (m : Meaning) (cs : List ℕ) (has : (c : ℕ) → T (among c action_causes) → T (among c cs)) where
  marked_test : (t u : Bool) (p : ℕ) (r : Walked) → Marked cs r → Marked cs (elim t [ true ↦ bad 7 p | false ↦ elim u [ true ↦ bad 8 p | false ↦ r ] ])
  marked_test true u p r h = has 7 tt
  marked_test false true p r h = has 8 tt
  marked_test false false p r h = h

  walk_marked : (n p : ℕ) (bs : Bytes) → Marked cs (walk_in n p bs)
  walk_marked zero p bs = tt
  walk_marked (suc n) p [] = tt
  walk_marked (suc n) p (a ∷ []) = has 6 tt
  walk_marked (suc n) p (a ∷ b ∷ []) = has 6 tt
  walk_marked (suc n) p (a ∷ b ∷ c ∷ []) = has 6 tt
  walk_marked (suc n) p (a ∷ b ∷ c ∷ d ∷ rest) =
      let len : ℕ = number (a ∷ b ∷ []) in
      marked_test (ltb (4 + length rest) len) (ltb len 4) p _ (walk_marked n (p + rounded len) (drop (rounded len - 4) rest))

  only_text : (p layer : ℕ) (x : Bytes) → Only cs (text p layer x)
  only_text p layer x = only_cond cs (is_text (stripped x)) (Ok (stripped x)) (Err (fault 9 p layer)) tt (has 9 tt)

  only_u32 : (p layer : ℕ) (x : Bytes) → Only cs (u32 p layer x)
  only_u32 p layer x = only_cond cs (eqb (length x) 4) (Ok (number x)) (Err (needing 12 p layer 4)) tt (has 12 tt)

  only_as_read : (p : ℕ) (a : Answer) → Only cs (as_read p a)
  only_as_read p (accept w x) = tt
  only_as_read p (refuse n d) = has 14 tt

  only_kinds_test : (t : Bool) (p : ℕ) (x : Bytes) (r : Walked) → Only cs (kinds r) → Only cs (elim t [ true ↦ text p 3 x >>= (λ t. kinds r >>= λ l. Ok (t ∷ l)) | false ↦ kinds r ])
  only_kinds_test true p x r h = only_then cs (text p 3 x) _ (only_text p 3 x) (λ t. only_then cs (kinds r) _ h (λ l. tt))
  only_kinds_test false p x r h = h

  only_kinds : (k : Walked) → Marked cs k → Only cs (kinds k)
  only_kinds done s = tt
  only_kinds (bad c p) s = s
  only_kinds (item p w x r) s = only_kinds_test (eqb (type_of w) 1) p x r (only_kinds r s)

  only_the_kind : (p : ℕ) (l : List Bytes) → Only cs (the_kind p l)
  only_the_kind p [] = has 10 tt
  only_the_kind p (t ∷ []) = tt
  only_the_kind p (t ∷ u ∷ l) = has 11 tt

  only_as : (f : AttributeForm) (k : Bytes) (p w : ℕ) (x : Bytes) → Only cs (read_as m f k p w x)
  only_as AttributeForm.as_kind k p w x = only_then cs (text p 3 x) _ (only_text p 3 x) (λ t. tt)
  only_as AttributeForm.as_options k p w x =
      only_then cs (each 4 (λ q v y. as_read q (m k v y)) (walk (p + 4) x)) _ (only_each cs 4 (λ q v y. as_read q (m k v y)) (λ q v y. only_as_read q (m k v y)) (walk (p + 4) x) (walk_marked (length x) (p + 4) x)) (λ l. tt)
  only_as AttributeForm.as_default k p w x = tt
  only_as (AttributeForm.as_u32 f) k p w x = only_then cs (u32 p 3 x) _ (only_u32 p 3 x) (λ n. tt)
  only_as (AttributeForm.as_raw f) k p w x = tt

  pub only_action : (p w : ℕ) (x : Bytes) → Only cs (read_action m p w x)
  only_action p w x =
      let marked = walk_marked (length x) (p + 4) x in
      only_then cs (kinds (walk (p + 4) x)) _ (only_kinds (walk (p + 4) x) marked)
      (λ l. only_then cs (the_kind p l) _ (only_the_kind p l)
      (λ k. only_then cs (each 3 (read_attribute m k) (walk (p + 4) x)) _ (only_each cs 3 (read_attribute m k) (λ q v y. only_as (get_or attribute_forms (type_of v) AttributeForm.as_default) k q v y) (walk (p + 4) x) marked) (λ l. tt)))

  -- a filter's options give also 13
  module _ (short : T (among 13 cs)) where
    only_selector : (p : ℕ) (x : Bytes) → Only cs (read_selector p x)
    only_selector p x =
        only_cond cs (ltb (length x) 16) (Err (needing 13 p 1 16)) _ short
        (only_cond cs (ltb (length x) (wanted x)) (Err (needing 13 p 1 (wanted x))) (Ok (decode x)) short tt)

    only_option : (f : OptionForm) (p w : ℕ) (x : Bytes) → Only cs (read_option_as m f p w x)
    only_option OptionForm.as_class_id p w x = only_then cs (u32 p 1 x) _ (only_u32 p 1 x) (λ n. tt)
    only_option OptionForm.as_selector p w x = only_then cs (read_selector p x) _ (only_selector p x) (λ s. tt)
    only_option OptionForm.as_actions p w x =
        only_then cs (each 2 (read_action m) (walk (p + 4) x)) _ (only_each cs 2 (read_action m) only_action (walk (p + 4) x) (walk_marked (length x) (p + 4) x)) (λ l. tt)
    only_option OptionForm.as_default p w x = tt
    only_option (OptionForm.as_u32 f) p w x = only_then cs (u32 p 1 x) _ (only_u32 p 1 x) (λ n. tt)
    only_option (OptionForm.as_raw f) p w x = tt

    pub only_options : (bs : Bytes) → Only cs (read_options m bs)
    only_options bs = only_each cs 1 (read_option m) (λ p w x. only_option (get_or option_forms (type_of w) OptionForm.as_default) p w x) (walk 0 bs) (walk_marked (length bs) 0 bs)
