-- Writing out answers the first of its causes that holds. Assumes nothing.
use Rattle.std.proofs.Common.{◌≡◌, ℕ, zero, suc, ◌+◌, ◌*◌, ◌/◌, ◌%◌, ◌<◌, ◌≤◌, Bool, true, false, cond, ltb, ◌⊎◌, List, [], ◌∷◌, length, get_or, drop, Ok, Err, sym, refl, ap, ◌∙◌, subst, inl, inr, arith, ltb-false, ltb-true}
use Rattle.std.specs.List.{AllByRecursion}
use Rattle.model.specs.Numbers.{Bytes, Octets, number, bytes_of}
use Rattle.model.specs.Faults.{Read, ◌>>=◌, fault}
use Rattle.model.specs.Attributes.{type_of}
use Rattle.model.specs.Walk.{Walked, done, bad, item, walk}
use Rattle.model.specs.Selector.{Selector, encode_keys, encode}
use Rattle.model.specs.Book.{Meaning}
use Rattle.model.specs.Reading.{each, u32, Action, read_action, read_selector, OptionForm, option_forms, read_option_as, read_option, read_options, read_filter, Reading, FilterOption, class_id, selector, actions}
use Rattle.model.specs.Writing.{write_option, written, fitting, write_out}
use Rattle.model.specs.Page.{only_fault}
use Rattle.model.specs.Refusals.{First, found_by, place_of, Outgrows, FirstOutgrown, write_out_grounds, WritingOutAnswersTheFirstCause}
use Rattle.model.proofs.Each.{err-not-ok, ok_same, chain, passed, walk_sound, each_all}
use Rattle.model.proofs.Selectors.{KeptSelector, length-encode_keys, selector-read}
use Rattle.model.proofs.Causes.{among-more, found_same, found_none, Only, only_options, first_of, none_of}

-- ── only an option of actions can outgrow its length field ──
abbrev Bounded : FilterOption → Type 0
Bounded o = (length (write_option o).payload ≤ 65531) ⊎ ((l : List Action) × (o ≡ actions l))

-- what a form that carries a number or the bytes as found is written as
abbrev Plain : OptionForm → Type 0
Plain OptionForm.as_class_id = Unit {0}
Plain OptionForm.as_selector = Unit {0}
Plain OptionForm.as_actions = Unit {0}
Plain OptionForm.as_default = Unit {0}
Plain (OptionForm.as_u32 f) = (n : ℕ) → length (write_option (f n)).payload ≡ 4
Plain (OptionForm.as_raw f) = (x : Bytes) → (write_option (f x)).payload ≡ x

all-at : {A : Type 0} (P : A → Type 0) (l : List A) (d : A) → AllByRecursion P l → P d → (i : ℕ) → P (get_or l i d)
all-at P [] d h last i = last
all-at P (a ∷ l) d h last zero = h.0
all-at P (a ∷ l) d h last (suc i) = all-at P l d h.1 last i

plain : (t : ℕ) → Plain (get_or option_forms t OptionForm.as_default)
plain t =
    let u = λ (n : ℕ). refl in
    let r = λ (x : Bytes). refl in
    all-at Plain option_forms OptionForm.as_default (tt, (tt, (u, (u, (u, (tt, (r, (tt, (r, (r, (r, (u, tt)))))))))))) tt t

selector_short : (s : Selector) → KeptSelector s → length (encode s) ≤ 65531
selector_short s h =
    let size : length (encode_keys s.keys) ≡ 16 * length s.keys = length-encode_keys s.keys in
    let many : length s.keys ≡ s.nkeys = h.many in
    let n : number (bytes_of 1 s.nkeys) ≡ s.nkeys = h.nkeys in
    omega arith

module _ (m : Meaning) (p w : ℕ) (x : Bytes) (hw : w < 65536) (o : Octets x) (short : length x ≤ 65531) (a : FilterOption) where
  bounded_as : (f : OptionForm) → Plain f → read_option_as m f p w x ≡ Ok a → Bounded a
  bounded_as OptionForm.as_class_id h q =
      let g = chain (u32 p 1 x) (λ n. Ok (class_id (n / 65536) (n % 65536))) q in
      subst Bounded (ok_same g.1.1) (inl (omega arith))
  bounded_as OptionForm.as_selector h q =
      let g = chain (read_selector p x) (λ s. Ok (selector s)) q in
      subst Bounded (ok_same g.1.1) (inl (selector_short g.0 (selector-read p x g.0 o g.1.0)))
  bounded_as OptionForm.as_actions h q =
      let g = chain (each 2 (read_action m) (walk (p + 4) x)) (λ l. Ok (actions l)) q in
      inr (g.0, sym (ok_same g.1.1))
  bounded_as OptionForm.as_default h q = subst Bounded (ok_same q) (inl short)
  bounded_as (OptionForm.as_u32 f) h q =
      let g = chain (u32 p 1 x) (λ n. Ok (f n)) q in
      let e : length (write_option (f g.0)).payload ≡ 4 = h g.0 in
      subst Bounded (ok_same g.1.1) (inl (omega arith))
  bounded_as (OptionForm.as_raw f) h q = subst Bounded (ok_same q) (inl (subst (λ (y : Bytes). length y ≤ 65531) (sym (h x)) short))

  bounded : read_option m p w x ≡ Ok a → Bounded a
  bounded q = bounded_as (get_or option_forms (type_of w) OptionForm.as_default) (plain (type_of w)) q

outgrows : (a : FilterOption) → Bounded a → 65531 < length (write_option a).payload → Outgrows a
outgrows a (inl short) long = absurd (omega arith)
outgrows a (inr is) long = (is.0, (is.1, long))

-- ── the first that outgrows ──
abbrev Fits : Walked → Reading → Type 0
Fits k r = ((i : ℕ) × (FirstOutgrown i r × (fitting k r ≡ Err (fault 15 (place_of i k) 1)))) ⊎ (((i : ℕ) → FirstOutgrown i r → ⊥) × (fitting k r ≡ Ok tt))

fits_more : (p w : ℕ) (x : Bytes) (k : Walked) (a : FilterOption) (r : Reading) (t : Bool) → ltb 65531 (length (write_option a).payload) ≡ t → Bounded a → Fits k r → Fits (item p w x k) (a ∷ r)
fits_more p w x k a r true e b h = inl (0, (outgrows a b (ltb-true 65531 (length (write_option a).payload) e), rw e))
fits_more p w x k a r false e b (inl h) = inl (suc h.0, ((ltb-false 65531 (length (write_option a).payload) e, h.1.0), rw e h.1.1))
fits_more p w x k a r false e b (inr h) = inr (go, rw e h.1)
  where
    go : (i : ℕ) → FirstOutgrown i (a ∷ r) → ⊥
    go zero f = let long : 65531 < length (write_option a).payload = f.1.1 in let short : length (write_option a).payload ≤ 65531 = ltb-false 65531 (length (write_option a).payload) e in omega arith
    go (suc i) f = h.0 i f.1

fits : (f : ℕ → ℕ → Bytes → Read FilterOption) (k : Walked) (r : Reading) → each 1 f k ≡ Ok r → AllByRecursion Bounded r → Fits k r
fits f done r q b = subst (Fits done) (ok_same q) (inr (λ i h. h, refl))
fits f (bad c p) r q b = err-not-ok _ r q
fits f (item p w x k) r q b =
    let one = chain (f p w x) (λ a. each 1 f k >>= λ l. Ok (a ∷ l)) q in
    let more = chain (each 1 f k) (λ l. Ok (one.0 ∷ l)) one.1.1 in
    let same : one.0 ∷ more.0 ≡ r = ok_same more.1.1 in
    let b' : AllByRecursion Bounded (one.0 ∷ more.0) = subst (AllByRecursion Bounded) (sym same) b in
    subst (Fits (item p w x k)) same (fits_more p w x k one.0 more.0 (ltb 65531 (length (write_option one.0).payload)) refl b'.0 (fits f k more.0 more.1.0 b'.1))

-- ── the law ──
abbrev causes : List ℕ
causes = 6 ∷ 7 ∷ 8 ∷ 9 ∷ 10 ∷ 11 ∷ 12 ∷ 13 ∷ 14 ∷ []

module _ (m : Meaning) (free : ℕ) (bs : Bytes) where
  abbrev into_room : Reading → Read Bytes
  into_room r = cond (ltb free (length (written r))) (Err (fault 16 0 1)) (Ok (written r))

  abbrev from_reading : Reading → Read Bytes
  from_reading r = fitting (walk 0 bs) r >>= λ _. into_room r

  -- what each step answers, by the causes that are left
  of_room : (r : Reading) → read_options m bs ≡ Ok r → (t : Bool) → ltb free (length (written r)) ≡ t →
      First (drop 11 (write_out_grounds m free bs)) (only_fault (cond t (Err (fault 16 0 1)) (Ok (written r))))
  of_room r q true e = inl ((r, (q, ltb-true free (length (written r)) e)), refl)
  of_room r q false e =
      let enough : length (written r) ≤ free = ltb-false free (length (written r)) e in
      inr (λ h. let less : free < length (written r) = subst (λ (s : Reading). free < length (written s)) (ok_same (sym h.1.0 ∙ q)) h.1.1 in omega arith, refl)

  of_fitting : (r : Reading) → read_options m bs ≡ Ok r → Fits (walk 0 bs) r → First (drop 10 (write_out_grounds m free bs)) (only_fault (from_reading r))
  of_fitting r q (inl h) = inl ((r, (h.0, (q, h.1.0))), ap (λ (v : Read (Unit {0})). only_fault (v >>= λ _. into_room r)) h.1.1)
  of_fitting r q (inr h) =
      let G = drop 10 (write_out_grounds m free bs) in
      subst (λ (v : Read (Unit {0})). First G (only_fault (v >>= λ _. into_room r))) (sym h.1)
      (inr (λ g. h.0 g.1.0 (subst (FirstOutgrown g.1.0) (ok_same (sym g.1.1.0 ∙ q)) g.1.1.1), of_room r q (ltb free (length (written r))) refl))

  of_reading : Octets bs → (v : Read Reading) → read_options m bs ≡ v → Only causes v → First (drop 1 (write_out_grounds m free bs)) (only_fault (v >>= from_reading))
  of_reading o (Ok r) q h =
      let all = each_all Bounded 1 (read_option m) (bounded m) (walk 0 bs) (walk_sound (length bs) 0 bs o) r q in
      none_of (found_by (read_options m bs)) (only_fault (from_reading r)) (λ c. found_none (read_options m bs) c r q) causes (drop 10 (write_out_grounds m free bs))
      (of_fitting r q (fits (read_option m) (walk 0 bs) r q all))
  of_reading o (Err e) q h =
      first_of (found_by (read_options m bs)) (Err e) e.cause ((e, (q, refl)), refl) (λ c other g. other (found_same (read_options m bs) c e q g)) causes (drop 10 (write_out_grounds m free bs)) h

  of_length : Octets bs → (t : Bool) → ltb 65531 (length bs) ≡ t → First (write_out_grounds m free bs) (only_fault (cond t (Err (fault 1 0 1)) (read_options m bs) >>= from_reading))
  of_length o true e = inl (ltb-true 65531 (length bs) e, refl)
  of_length o false e =
      let short : length bs ≤ 65531 = ltb-false 65531 (length bs) e in
      inr (λ (h : 65531 < length bs). omega arith, of_reading o (read_options m bs) refl (only_options m causes (λ c. among-more c (6 ∷ 7 ∷ 8 ∷ 9 ∷ 10 ∷ 11 ∷ 12 ∷ []) (14 ∷ []) 13) tt bs))

  wrote : (x : Bytes) → write_out m free bs ≡ Ok x → (r : Reading) × ((read_filter m bs ≡ Ok r) × (x ≡ written r))
  wrote x q =
      let f = chain (read_filter m bs) from_reading q in
      let g = chain (fitting (walk 0 bs) f.0) (λ _. into_room f.0) f.1.1 in
      let d = passed (ltb free (length (written f.0))) (fault 16 0 1) (Ok (written f.0)) g.1.1 in
      (f.0, (f.1.0, sym (ok_same d.1)))

pub writing_out_answers_the_first_cause : WritingOutAnswersTheFirstCause
writing_out_answers_the_first_cause = record { refusals = λ m free bs o. of_length m free bs o (ltb 65531 (length bs)) refl; value = wrote }
