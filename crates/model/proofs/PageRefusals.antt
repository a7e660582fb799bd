-- A page's calls answer the first of their causes that holds. Assumes nothing.
use Rattle.std.proofs.Common.{◌≡◌, ℕ, zero, suc, ◌+◌, ◌-◌, ◌/◌, ◌%◌, ◌<◌, ◌≤◌, Bool, true, false, cond, not, T, eqb, ltb, ◌⊎◌, List, [], ◌∷◌, map, length, get_or, drop, Ok, Err, IsUtf8, Decides, refl, ap, subst, inl, inr, arith, ltb-false, ltb-true, eqb-true}
use borrow.Author.Tests.{eqb-false}
use Rattle.std.proofs.lemmas.Bool.{false≢true, not-true, not-false}
use Rattle.std.proofs.lemmas.Bool.Decides.{Decides-eqb, Decides-ltb, Decides-not, not_from_Decides}
use Rattle.model.specs.Numbers.{Bytes, number, part}
use Rattle.model.specs.Faults.{Read, ◌>>=◌, FaultNumbers, fault, needing}
use Rattle.model.specs.Attributes.{type_of, rounded}
use Rattle.model.specs.Text.{is_text, stripped, GrammarIsUtf8}
use Rattle.model.specs.Selector.{wanted, decode}
use Rattle.model.specs.Book.{Meaning}
use Rattle.model.specs.Reading.{u32, text, read_selector, Action, kind, index, in_hw_count, AttributeForm, attribute_forms, read_as, OptionForm, option_forms, read_option_as, class_id, hash, link, divisor, selector, flags}
use Rattle.model.specs.Page.{Page, level, Call, put, open_nest, close, strike, own_fault, check, only_fault, put_belongs, open_belongs, reads_alone, action_at, close_reads, verdict}
use Rattle.model.specs.Refusals.{Ground, ground, First, found_by, PutBelongs, OpenBelongs, IsU32, IsKind, IsSelector, innermost, grounds, PageCallsAnswerTheFirstCause}
use Rattle.model.proofs.Causes.{found_same, found_none, action_causes, Only, only_action, first_of, none_of, first_check}

-- ── causes and their tests ──
module _ {P : Type 0} (t : Bool) (d : Decides t P) (e : FaultNumbers) (gs : List Ground) (v : Read (Unit {0})) where
  first_met : (P → First gs v) → First (ground (¬ P) e ∷ gs) (check t e >>= λ _. v)
  first_met h = first_check (¬ P) t e gs v (not_from_Decides t d) (λ q n. n (d.0 q)) (λ q. h (d.0 q))

  first_unless : First gs v → First (ground P e ∷ gs) (check (not t) e >>= λ _. v)
  first_unless h = first_check P (not t) e gs v (λ q. d.0 (not-false t q)) (λ q. not_from_Decides t d (not-true t q)) (λ _. h)

-- the check that comes last
last : {P : Type 0} {e : FaultNumbers} (t : Bool) → First (ground P e ∷ []) (check t e >>= λ _. Ok tt) → First (ground P e ∷ []) (check t e)
last true h = h
last false h = h

-- a cause of some attributes only: of the one at hand, and not of it
of_this : {Q P W R : Type 0} → Q → (P × W) ⊎ ((P → ⊥) × R) → ((Q × P) × W) ⊎ ((Q × P → ⊥) × R)
of_this q (inl h) = inl ((q, h.0), h.1)
of_this q (inr h) = inr (λ k. h.0 k.1, h.1)

of_others : {Q P W R : Type 0} → ¬ Q → R → ((Q × P) × W) ⊎ ((Q × P → ⊥) × R)
of_others n h = inr (λ k. n k.0, h)

told : {P : Type 0} (t : Bool) → (T t → P) → (P → T t) → Decides t P
told true f g = (λ _. f tt, λ _. refl)
told false f g = (λ e. absurd (false≢true e), λ p. absurd (g p))

decides_put : (l t : ℕ) → Decides (put_belongs l t) (PutBelongs l t)
decides_put zero t = Decides-not (eqb t 7) (Decides-eqb t 7)
decides_put (suc zero) t = told false (λ z. z) (λ z. z)
decides_put (suc (suc zero)) t = Decides-not (eqb t 2) (Decides-eqb t 2)
decides_put (suc (suc (suc n))) t = told true (λ z. z) (λ z. z)

decides_open : (l t : ℕ) → Decides (open_belongs l t) (OpenBelongs l t)
decides_open zero t = Decides-eqb t 7
decides_open (suc zero) t = told true (λ z. z) (λ z. z)
decides_open (suc (suc zero)) t = Decides-eqb t 2
decides_open (suc (suc (suc n))) t = told false (λ z. z) (λ z. z)

-- what a reader of one test answers is a check
as_check : {A B : Type 0} (t : Bool) (a : A) (f : A → B) (e : FaultNumbers) (v : Read (Unit {0})) → (check t e >>= λ _. v) ≡ (only_fault (cond t (Ok a) (Err e) >>= λ n. Ok (f n)) >>= λ _. v)
as_check true a f e v = refl
as_check false a f e v = refl

as_checks : {A B : Type 0} (t u : Bool) (a : A) (f : A → B) (e d : FaultNumbers) (v : Read (Unit {0})) →
    (check (not t) e >>= λ _. check (not u) d >>= λ _. v) ≡ (only_fault (cond t (Err e) (cond u (Err d) (Ok a)) >>= λ n. Ok (f n)) >>= λ _. v)
as_checks true u a f e d v = refl
as_checks false true a f e d v = refl
as_checks false false a f e d v = refl

-- ── an attribute that is put reads by itself ──
-- the causes of an attribute of type t at level l and place p, and then those of gs
abbrev alone_grounds : (l t p : ℕ) → Bytes → List Ground → List Ground
alone_grounds l t p x gs =
    ground (IsKind l t × ¬ IsUtf8 (stripped x)) (needing 9 p (suc l) 0)
    ∷ ground (IsU32 l t × ¬ (length x ≡ 4)) (needing 12 p (suc l) 4)
    ∷ ground (IsSelector l t × (length x < 16)) (needing 13 p (suc l) 16)
    ∷ ground (IsSelector l t × (length x < wanted x)) (needing 13 p (suc l) (wanted x))
    ∷ gs

module _ (utf8 : GrammarIsUtf8) (m : Meaning) (p w : ℕ) (x : Bytes) (gs : List Ground) (v : Read (Unit {0})) (rest : First gs v) where
  module _ (l t : ℕ) where
    plain : ¬ (IsKind l t ⊎ (IsU32 l t ⊎ IsSelector l t)) → First (alone_grounds l t p x gs) v
    plain n = of_others (λ h. n (inl h)) (of_others (λ h. n (inr (inl h))) (of_others (λ h. n (inr (inr h))) (of_others (λ h. n (inr (inr h))) rest)))

    of_kind : {B : Type 0} (f : Bytes → B) → IsKind l t → ¬ (IsU32 l t ⊎ IsSelector l t) → First (alone_grounds l t p x gs) (only_fault (text p (suc l) x >>= λ n. Ok (f n)) >>= λ _. v)
    of_kind f is n =
        subst (First (alone_grounds l t p x gs)) (as_check (is_text (stripped x)) (stripped x) f (fault 9 p (suc l)) v)
        (of_this is (first_met (is_text (stripped x)) (told (is_text (stripped x)) (utf8 (stripped x)).2 (utf8 (stripped x)).3) (fault 9 p (suc l)) (drop 1 (alone_grounds l t p x gs)) v
        (λ _. of_others (λ h. n (inl h)) (of_others (λ h. n (inr h)) (of_others (λ h. n (inr h)) rest)))))

    of_u32 : {B : Type 0} (f : ℕ → B) → IsU32 l t → ¬ (IsKind l t ⊎ IsSelector l t) → First (alone_grounds l t p x gs) (only_fault (u32 p (suc l) x >>= λ n. Ok (f n)) >>= λ _. v)
    of_u32 f is n =
        subst (First (alone_grounds l t p x gs)) (as_check (eqb (length x) 4) (number x) f (needing 12 p (suc l) 4) v)
        (of_others (λ h. n (inl h)) (of_this is (first_met (eqb (length x) 4) (Decides-eqb (length x) 4) (needing 12 p (suc l) 4) (drop 2 (alone_grounds l t p x gs)) v
        (λ _. of_others (λ h. n (inr h)) (of_others (λ h. n (inr h)) rest)))))

  of_selector : First (alone_grounds 0 5 p x gs) (only_fault (read_selector p x >>= λ s. Ok (selector s)) >>= λ _. v)
  of_selector =
      let is : IsSelector 0 5 = (refl, refl) in
      let enough = first_unless (ltb (length x) (wanted x)) (Decides-ltb (length x) (wanted x)) (needing 13 p 1 (wanted x)) gs v rest in
      subst (First (alone_grounds 0 5 p x gs)) (as_checks (ltb (length x) 16) (ltb (length x) (wanted x)) (decode x) selector (needing 13 p 1 16) (needing 13 p 1 (wanted x)) v)
      (of_others (λ h. omega arith) (of_others (λ h. omega arith)
      (of_this is (first_unless (ltb (length x) 16) (Decides-ltb (length x) 16) (needing 13 p 1 16) (drop 3 (alone_grounds 0 5 p x gs)) (check (not (ltb (length x) (wanted x))) (needing 13 p 1 (wanted x)) >>= λ _. v) (of_this is enough)))))

  option_alone : (t : ℕ) → ¬ (t ≡ 7) → First (alone_grounds 0 t p x gs) (only_fault (read_option_as m (get_or option_forms t OptionForm.as_default) p w x) >>= λ _. v)
  option_alone zero n = plain 0 0 (λ h. omega arith)
  option_alone (suc zero) n = of_u32 0 1 (λ n. class_id (n / 65536) (n % 65536)) (grind arith) (λ h. omega arith)
  option_alone (suc (suc zero)) n = of_u32 0 2 hash (grind arith) (λ h. omega arith)
  option_alone (suc (suc (suc zero))) n = of_u32 0 3 link (grind arith) (λ h. omega arith)
  option_alone (suc (suc (suc (suc zero)))) n = of_u32 0 4 divisor (grind arith) (λ h. omega arith)
  option_alone (suc (suc (suc (suc (suc zero))))) n = of_selector
  option_alone (suc (suc (suc (suc (suc (suc zero)))))) n = plain 0 6 (λ h. omega arith)
  option_alone (suc (suc (suc (suc (suc (suc (suc zero))))))) n = absurd (n refl)
  option_alone (suc (suc (suc (suc (suc (suc (suc (suc zero)))))))) n = plain 0 8 (λ h. omega arith)
  option_alone (suc (suc (suc (suc (suc (suc (suc (suc (suc zero))))))))) n = plain 0 9 (λ h. omega arith)
  option_alone (suc (suc (suc (suc (suc (suc (suc (suc (suc (suc zero)))))))))) n = plain 0 10 (λ h. omega arith)
  option_alone (suc (suc (suc (suc (suc (suc (suc (suc (suc (suc (suc zero))))))))))) n = of_u32 0 11 flags (grind arith) (λ h. omega arith)
  option_alone (suc (suc (suc (suc (suc (suc (suc (suc (suc (suc (suc (suc t)))))))))))) n = plain 0 (suc (suc (suc (suc (suc (suc (suc (suc (suc (suc (suc (suc t)))))))))))) (λ h. omega arith)

  attribute_alone : (t : ℕ) → ¬ (t ≡ 2) → First (alone_grounds 2 t p x gs) (only_fault (read_as m (get_or attribute_forms t AttributeForm.as_default) [] p w x) >>= λ _. v)
  attribute_alone zero n = plain 2 0 (λ h. omega arith)
  attribute_alone (suc zero) n = of_kind 2 1 kind (refl, refl) (λ h. omega arith)
  attribute_alone (suc (suc zero)) n = absurd (n refl)
  attribute_alone (suc (suc (suc zero))) n = of_u32 2 3 index (grind arith) (λ h. omega arith)
  attribute_alone (suc (suc (suc (suc zero)))) n = plain 2 4 (λ h. omega arith)
  attribute_alone (suc (suc (suc (suc (suc zero))))) n = plain 2 5 (λ h. omega arith)
  attribute_alone (suc (suc (suc (suc (suc (suc zero)))))) n = plain 2 6 (λ h. omega arith)
  attribute_alone (suc (suc (suc (suc (suc (suc (suc zero))))))) n = plain 2 7 (λ h. omega arith)
  attribute_alone (suc (suc (suc (suc (suc (suc (suc (suc zero)))))))) n = plain 2 8 (λ h. omega arith)
  attribute_alone (suc (suc (suc (suc (suc (suc (suc (suc (suc zero))))))))) n = plain 2 9 (λ h. omega arith)
  attribute_alone (suc (suc (suc (suc (suc (suc (suc (suc (suc (suc zero)))))))))) n = of_u32 2 10 in_hw_count (grind arith) (λ h. omega arith)
  attribute_alone (suc (suc (suc (suc (suc (suc (suc (suc (suc (suc (suc t))))))))))) n = plain 2 (suc (suc (suc (suc (suc (suc (suc (suc (suc (suc (suc t))))))))))) (λ h. omega arith)

module _ (utf8 : GrammarIsUtf8) (m : Meaning) (g : Page) (w : ℕ) (x : Bytes) (gs : List Ground) (v : Read (Unit {0})) (rest : First gs v) where
  alone : (l : ℕ) → PutBelongs l (type_of w) → First (alone_grounds l (type_of w) g.used x gs) (reads_alone m g l w x >>= λ _. v)
  alone zero b = option_alone utf8 m g.used w x gs v rest (type_of w) b
  alone (suc zero) b = absurd b
  alone (suc (suc zero)) b = attribute_alone utf8 m g.used w x gs v rest (type_of w) b
  alone (suc (suc (suc n))) b = plain utf8 m g.used w x gs v rest (suc (suc (suc n))) (type_of w) (λ h. omega arith)

-- ── closing ──
module _ (m : Meaning) (size used head : ℕ) (outer : List ℕ) (mem : Bytes) where
  abbrev nested : Page
  nested = record { size = size; used = used; heads = head ∷ outer }

  abbrev in_action : ℕ → Ground
  in_action c = record { holds = (level nested ≡ 2) × (found_by (innermost m nested mem) c).holds; gives = λ h. h.1.0 }

  of_action : level nested ≡ 2 → (r : Read Action) → innermost m nested mem ≡ r → Only action_causes r → First (map in_action action_causes) (only_fault r)
  of_action two (Ok a) q h = none_of in_action (Ok tt) (λ c k. found_none (innermost m nested mem) c a q k.1) action_causes [] refl
  of_action two (Err e) q h =
      first_of in_action (Err e) e.cause ((two, (e, (q, refl))), refl) (λ c other k. other (found_same (innermost m nested mem) c e q k.1)) action_causes [] h

  of_nest : (t : Bool) → eqb (length outer) 1 ≡ t → First (map in_action action_causes) (cond t (action_at m mem nested head) (Ok tt))
  of_nest true e = of_action (ap suc (eqb-true (length outer) 1 e)) (innermost m nested mem) refl (only_action m action_causes (λ c h. h) head 0 (part (head + 4) (used - (head + 4)) mem))
  of_nest false e = let other : ¬ (length outer ≡ 1) = eqb-false (length outer) 1 e in none_of in_action (Ok tt) (λ c k. let two : suc (length outer) ≡ 2 = k.0 in other (omega arith)) action_causes [] refl

closing : (m : Meaning) (size used : ℕ) (heads : List ℕ) (mem : Bytes) → 0 < length heads →
    let g : Page = record { size = size; used = used; heads = heads } in First (drop 2 (grounds m g mem close)) (close_reads m mem g)
closing m size used [] mem h = absurd (omega arith)
closing m size used (head ∷ outer) mem h = of_nest m size used head outer mem (eqb (length outer) 1) refl

-- ── the law ──
module _ (m : Meaning) (g : Page) (mem : Bytes) where
  at_home : (gs : List Ground) (v : Read (Unit {0})) → First gs v → First (ground (¬ (length mem ≡ g.size)) (own_fault g 2 0) ∷ gs) (check (eqb (length mem) g.size) (own_fault g 2 0) >>= λ _. v)
  at_home gs v h = first_met (eqb (length mem) g.size) (Decides-eqb (length mem) g.size) (own_fault g 2 0) gs v (λ _. h)

  in_nest : (gs : List Ground) (v : Read (Unit {0})) → (0 < level g → First gs v) → First (ground (level g ≡ 0) (own_fault g 5 0) ∷ gs) (check (ltb 0 (level g)) (own_fault g 5 0) >>= λ _. v)
  in_nest gs v h =
      first_check (level g ≡ 0) (ltb 0 (level g)) (own_fault g 5 0) gs v (λ e. let z : level g ≤ 0 = ltb-false 0 (level g) e in omega arith)
      (λ e z. let s : 0 < level g = ltb-true 0 (level g) e in omega arith) (λ e. h (ltb-true 0 (level g) e))

  with_room : (need : ℕ) → First (ground (g.size - g.used < need) (own_fault g 16 0) ∷ []) (check (not (ltb (g.size - g.used) need)) (own_fault g 16 0))
  with_room need = last (not (ltb (g.size - g.used) need)) (first_unless (ltb (g.size - g.used) need) (Decides-ltb (g.size - g.used) need) (own_fault g 16 0) [] (Ok tt) refl)

  of_call : GrammarIsUtf8 → (c : Call) → First (grounds m g mem c) (verdict m g mem c)
  of_call utf8 (put w x) =
      let gs = grounds m g mem (put w x) in
      at_home (drop 1 gs) _ (first_met (put_belongs (level g) (type_of w)) (decides_put (level g) (type_of w)) (own_fault g 4 0) (drop 2 gs) _
      (λ b. alone utf8 m g w x (drop 6 gs) _ (with_room (4 + rounded (length x))) (level g) b))
  of_call utf8 (open_nest t) =
      let gs = grounds m g mem (open_nest t) in
      at_home (drop 1 gs) _ (first_unless (ltb 16383 t) (Decides-ltb 16383 t) (own_fault g 3 0) (drop 2 gs) _
      (first_met (open_belongs (level g) t) (decides_open (level g) t) (own_fault g 4 0) (drop 3 gs) _ (λ _. with_room 4)))
  of_call utf8 close =
      let gs = grounds m g mem close in
      at_home (drop 1 gs) _ (in_nest (drop 2 gs) _ (closing m g.size g.used g.heads mem))
  of_call utf8 strike = at_home (drop 1 (grounds m g mem strike)) _ (last (ltb 0 (level g)) (in_nest [] (Ok tt) (λ _. refl)))

of_making : (n : ℕ) (t : Bool) → ltb 65531 n ≡ t → First (ground (65531 < n) (fault 1 0 1) ∷ []) (only_fault {A = Page} (cond t (Err (fault 1 0 1)) (Ok (record { size = n; used = 0; heads = [] }))))
of_making n true e = inl (ltb-true 65531 n e, refl)
of_making n false e = let short : n ≤ 65531 = ltb-false 65531 n e in inr (λ (h : 65531 < n). omega arith, refl)

pub page_calls_answer_the_first_cause : GrammarIsUtf8 → PageCallsAnswerTheFirstCause
page_calls_answer_the_first_cause utf8 = record { of_calls = λ m g mem c. of_call m g mem utf8 c; of_making = λ n. of_making n (ltb 65531 n) refl }
