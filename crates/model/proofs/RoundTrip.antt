-- A filter that is written out reads as before; and so two are written alike exactly when their readings are equal. Assumes nothing.
use Rattle.std.proofs.Common.{◌≡◌, ℕ, zero, suc, ◌+◌, ◌*◌, ◌/◌, ◌%◌, ◌<◌, ◌≤◌, Bool, cond, eqb, ltb, List, ◌∷◌, length, get_or, Ok, Err, sym, refl, ap, ◌∙◌, subst, arith, ltb-false, le-ltb, eqb-true}
use Rattle.std.proofs.ByRecursion.{All-weaker}
use Rattle.std.specs.List.{AllByRecursion}
use Rattle.model.specs.Numbers.{Bytes, Octets, number, bytes_of}
use Rattle.model.specs.Faults.{Read, ◌>>=◌, fault, needing}
use Rattle.model.specs.Attributes.{type_of, Writable}
use Rattle.model.specs.Walk.{Walked, done, bad, item, walk}
use Rattle.model.specs.Selector.{Selector}
use Rattle.model.specs.Book.{Meaning, BookLaws}
use Rattle.model.specs.Reading.{each, u32, Action, read_action, read_selector, OptionForm, option_forms, read_option_as, read_option, read_options, read_filter, Reading, FilterOption, class_id, hash, link, divisor, selector, police, actions, indev, pcnt, mark, flags, default}
use Rattle.model.specs.Writing.{write_action, write_option, written, fitting, write_out}
use Rattle.model.specs.Laws.{RoundTrip, Canonical}
use Rattle.model.proofs.Numbers.{number_bytes, u32-lt}
use Rattle.model.proofs.Each.{err-not-ok, ok_same, chain, passed, met, walk_sound, each_all, each-written, all_mapped}
use Rattle.model.proofs.Actions.{SteadyAction, action_steady, action_again, all_short, all_both}
use Rattle.model.proofs.Selectors.{KeptSelector, read_selector_again, selector-read}

u32_is : (p layer : ℕ) (x : Bytes) (n : ℕ) → Octets x → u32 p layer x ≡ Ok n → n < 4294967296
u32_is p layer x n o q =
    let g = met (eqb (length x) 4) (needing 12 p layer 4) (Ok (number x)) q in
    subst (λ k. k < 4294967296) (ok_same g.1) (u32-lt x o (eqb-true (length x) 4 g.0))

-- what else is known of an option: its bytes, its actions, and that a default is no nest of actions
abbrev pub Known : (m : Meaning) → BookLaws m → FilterOption → Type 0
Known m laws (class_id a b) = Unit {0}
Known m laws (hash n) = Unit {0}
Known m laws (link n) = Unit {0}
Known m laws (divisor n) = Unit {0}
Known m laws (selector s) = Unit {0}
Known m laws (police x) = Octets x
Known m laws (actions l) = AllByRecursion (SteadyAction m laws) l
Known m laws (indev x) = Octets x
Known m laws (pcnt x) = Octets x
Known m laws (mark x) = Octets x
Known m laws (flags n) = Unit {0}
Known m laws (default w x) = (¬ (type_of w ≡ 7)) × Octets x

pub record SteadyOption (m : Meaning) (laws : BookLaws m) (o : FilterOption) : Type 0 where
  pub known : Known m laws o
  pub word16 : (write_option o).word < 65536
  pub again : (p : ℕ) → length (write_option o).payload ≤ 65531 → read_option m p (write_option o).word (write_option o).payload ≡ Ok o

module _ (m : Meaning) (laws : BookLaws m) where
  class_steady : (n : ℕ) → n < 4294967296 → SteadyOption m laws (class_id (n / 65536) (n % 65536))
  class_steady n h = record {
    known = tt;
    word16 = omega arith;
    again = λ p _.
        let whole : n / 65536 * 65536 + n % 65536 ≡ n = omega arith in
        let back : number (bytes_of 4 (n / 65536 * 65536 + n % 65536)) ≡ n = ap (λ k. number (bytes_of 4 k)) whole ∙ number_bytes 4 n h in
        ap {B = Read FilterOption} (λ v. Ok (class_id (v / 65536) (v % 65536))) back;
  }

  selector_steady : (s : Selector) → KeptSelector s → SteadyOption m laws (selector s)
  selector_steady s h = record { known = tt; word16 = omega arith; again = λ p _. ap (λ (r : Read Selector). r >>= λ s. Ok (selector s)) (read_selector_again p s h) }

  actions_steady : (l : List Action) → AllByRecursion (SteadyAction m laws) l → SteadyOption m laws (actions l)
  actions_steady l s = record {
    known = s;
    word16 = omega arith;
    again = λ p short.
        let both = all_both (SteadyAction m laws) (λ a. length (write_action a).payload ≤ 65531) l s (all_short write_action 65531 l short) in
        let ok = all_mapped (λ a. SteadyAction m laws a × (length (write_action a).payload ≤ 65531)) Writable write_action
        (λ a h. let small : a.tab < 16384 = h.0.tab14 in record { word16 = omega arith; short = h.1 }) l both in
        let reads = each-written 2 (read_action m) write_action l
        (All-weaker (λ a. SteadyAction m laws a × (length (write_action a).payload ≤ 65531)) (λ a. (p : ℕ) → read_action m p (write_action a).word (write_action a).payload ≡ Ok a) (λ a h q. action_again m laws a h.0 q h.1) l both) ok (p + 4) in
        ap (λ (r : Read (List Action)). r >>= λ l. Ok (actions l)) reads;
  }

  default_steady : (w t : ℕ) (x : Bytes) → Octets x → ¬ (t ≡ 7) → w < 65536 → type_of w ≡ t → get_or option_forms t OptionForm.as_default ≡ OptionForm.as_default → SteadyOption m laws (default w x)
  default_steady w t x o n hw e f = record {
    known = ((λ z. n (sym e ∙ z)), o);
    word16 = hw;
    again = λ p _. ap (λ (n : ℕ). read_option_as m (get_or option_forms n OptionForm.as_default) p w x) e ∙ ap (λ (g : OptionForm). read_option_as m g p w x) f;
  }

  hash_steady : (n : ℕ) → n < 4294967296 → SteadyOption m laws (hash n)
  hash_steady n h = record { known = tt; word16 = omega arith; again = λ p _. ap {B = Read FilterOption} (λ v. Ok (hash v)) (number_bytes 4 n h) }

  link_steady : (n : ℕ) → n < 4294967296 → SteadyOption m laws (link n)
  link_steady n h = record { known = tt; word16 = omega arith; again = λ p _. ap {B = Read FilterOption} (λ v. Ok (link v)) (number_bytes 4 n h) }

  divisor_steady : (n : ℕ) → n < 4294967296 → SteadyOption m laws (divisor n)
  divisor_steady n h = record { known = tt; word16 = omega arith; again = λ p _. ap {B = Read FilterOption} (λ v. Ok (divisor v)) (number_bytes 4 n h) }

  flags_steady : (n : ℕ) → n < 4294967296 → SteadyOption m laws (flags n)
  flags_steady n h = record { known = tt; word16 = omega arith; again = λ p _. ap {B = Read FilterOption} (λ v. Ok (flags v)) (number_bytes 4 n h) }

  police_steady : (x : Bytes) → Octets x → SteadyOption m laws (police x)
  police_steady x o = record { known = o; word16 = omega arith; again = λ p _. refl }

  indev_steady : (x : Bytes) → Octets x → SteadyOption m laws (indev x)
  indev_steady x o = record { known = o; word16 = omega arith; again = λ p _. refl }

  pcnt_steady : (x : Bytes) → Octets x → SteadyOption m laws (pcnt x)
  pcnt_steady x o = record { known = o; word16 = omega arith; again = λ p _. refl }

  mark_steady : (x : Bytes) → Octets x → SteadyOption m laws (mark x)
  mark_steady x o = record { known = o; word16 = omega arith; again = λ p _. refl }

  module _ (p w : ℕ) (x : Bytes) (hw : w < 65536) (o : Octets x) (short : length x ≤ 65531) (a : FilterOption) where
    steady_u32 : (f : ℕ → FilterOption) → ((n : ℕ) → n < 4294967296 → SteadyOption m laws (f n)) → (u32 p 1 x >>= λ n. Ok (f n)) ≡ Ok a → SteadyOption m laws a
    steady_u32 f h q =
        let g = chain (u32 p 1 x) (λ n. Ok (f n)) q in
        subst (SteadyOption m laws) (ok_same g.1.1) (h g.0 (u32_is p 1 x g.0 o g.1.0))

    steady_selector : (read_selector p x >>= λ s. Ok (selector s)) ≡ Ok a → SteadyOption m laws a
    steady_selector q =
        let g = chain (read_selector p x) (λ s. Ok (selector s)) q in
        subst (SteadyOption m laws) (ok_same g.1.1) (selector_steady g.0 (selector-read p x g.0 o g.1.0))

    steady_actions : (each 2 (read_action m) (walk (p + 4) x) >>= λ l. Ok (actions l)) ≡ Ok a → SteadyOption m laws a
    steady_actions q =
        let g = chain (each 2 (read_action m) (walk (p + 4) x)) (λ l. Ok (actions l)) q in
        subst (SteadyOption m laws) (ok_same g.1.1)
        (actions_steady g.0 (each_all (SteadyAction m laws) 2 (read_action m) (action_steady m laws) (walk (p + 4) x) (walk_sound (length x) (p + 4) x o) g.0 g.1.0))

    by_type : (t : ℕ) → type_of w ≡ t → read_option_as m (get_or option_forms t OptionForm.as_default) p w x ≡ Ok a → SteadyOption m laws a
    by_type zero e q = subst (SteadyOption m laws) (ok_same q) (default_steady w 0 x o (λ z. omega arith) hw e refl)
    by_type (suc zero) e q = steady_u32 (λ n. class_id (n / 65536) (n % 65536)) class_steady q
    by_type (suc (suc zero)) e q = steady_u32 hash hash_steady q
    by_type (suc (suc (suc zero))) e q = steady_u32 link link_steady q
    by_type (suc (suc (suc (suc zero)))) e q = steady_u32 divisor divisor_steady q
    by_type (suc (suc (suc (suc (suc zero))))) e q = steady_selector q
    by_type (suc (suc (suc (suc (suc (suc zero)))))) e q = subst (SteadyOption m laws) (ok_same q) (police_steady x o)
    by_type (suc (suc (suc (suc (suc (suc (suc zero))))))) e q = steady_actions q
    by_type (suc (suc (suc (suc (suc (suc (suc (suc zero)))))))) e q = subst (SteadyOption m laws) (ok_same q) (indev_steady x o)
    by_type (suc (suc (suc (suc (suc (suc (suc (suc (suc zero))))))))) e q = subst (SteadyOption m laws) (ok_same q) (pcnt_steady x o)
    by_type (suc (suc (suc (suc (suc (suc (suc (suc (suc (suc zero)))))))))) e q = subst (SteadyOption m laws) (ok_same q) (mark_steady x o)
    by_type (suc (suc (suc (suc (suc (suc (suc (suc (suc (suc (suc zero))))))))))) e q = steady_u32 flags flags_steady q
    by_type (suc (suc (suc (suc (suc (suc (suc (suc (suc (suc (suc (suc t)))))))))))) e q = subst (SteadyOption m laws) (ok_same q) (default_steady w (suc (suc (suc (suc (suc (suc (suc (suc (suc (suc (suc (suc t)))))))))))) x o (λ z. omega arith) hw e refl)

    pub option_steady : read_option m p w x ≡ Ok a → SteadyOption m laws a
    option_steady q = by_type (type_of w) refl q

  pub all_steady : (bs : Bytes) → Octets bs → (r : Reading) → read_options m bs ≡ Ok r → AllByRecursion (SteadyOption m laws) r
  all_steady bs o r q = each_all (SteadyOption m laws) 1 (read_option m) option_steady (walk 0 bs) (walk_sound (length bs) 0 bs o) r q

  -- what is written reads as before, however long it is
  pub again_options : (r : Reading) → AllByRecursion (SteadyOption m laws) r → AllByRecursion (λ o. length (write_option o).payload ≤ 65531) r → read_options m (written r) ≡ Ok r
  again_options r s short =
      let both = all_both (SteadyOption m laws) (λ o. length (write_option o).payload ≤ 65531) r s short in
      each-written 1 (read_option m) write_option r
      (All-weaker (λ o. SteadyOption m laws o × (length (write_option o).payload ≤ 65531)) (λ o. (p : ℕ) → read_option m p (write_option o).word (write_option o).payload ≡ Ok o) (λ o h p. h.0.again p h.1) r both)
      (all_mapped (λ o. SteadyOption m laws o × (length (write_option o).payload ≤ 65531)) Writable write_option (λ o h. record { word16 = h.0.word16; short = h.1 }) r both) 0

  pub read_inside : (bs : Bytes) (r : Reading) → read_filter m bs ≡ Ok r → read_options m bs ≡ Ok r
  read_inside bs r q = (passed (ltb 65531 (length bs)) (fault 1 0 1) (read_options m bs) q).1

pub round_trip : RoundTrip
round_trip m laws bs o r q short =
    let inner = again_options m laws r (all_steady m laws bs o r (read_inside m laws bs r q)) (all_short write_option 65531 r short) in
    ap (λ (t : Bool). cond t (Err (fault 1 0 1)) (read_options m (written r))) (le-ltb 65531 (length (written r)) short) ∙ inner

-- ── canonical ──
fits_all : (f : ℕ → ℕ → Bytes → Read FilterOption) (k : Walked) (r : Reading) → each 1 f k ≡ Ok r → fitting k r ≡ Ok tt → AllByRecursion (λ o. length (write_option o).payload ≤ 65531) r
fits_all f done r q h = subst (AllByRecursion (λ o. length (write_option o).payload ≤ 65531)) (ok_same q) tt
fits_all f (bad c p) r q h = err-not-ok _ r q
fits_all f (item p w x rest) r q h =
    let one = chain (f p w x) (λ a. each 1 f rest >>= λ l'. Ok (a ∷ l')) q in
    let more = chain (each 1 f rest) (λ l'. Ok (one.0 ∷ l')) one.1.1 in
    let same : one.0 ∷ more.0 ≡ r = ok_same more.1.1 in
    let h' : fitting (item p w x rest) (one.0 ∷ more.0) ≡ Ok tt = subst (λ (l : Reading). fitting (item p w x rest) l ≡ Ok tt) (sym same) h in
    let g = passed (ltb 65531 (length (write_option one.0).payload)) (fault 15 p 1) (fitting rest more.0) h' in
    let short : length (write_option one.0).payload ≤ 65531 = ltb-false 65531 (length (write_option one.0).payload) g.0 in
    subst (AllByRecursion (λ o. length (write_option o).payload ≤ 65531)) same (short, fits_all f rest more.0 more.1.0 g.1)

-- what writing out says: the reading, that its form is x, and that x reads as the reading
pub wrote : (m : Meaning) → BookLaws m → (bs : Bytes) → Octets bs → (free : ℕ) (x : Bytes) → write_out m free bs ≡ Ok x →
    (r : Reading) × ((read_filter m bs ≡ Ok r) × (written r ≡ x) × (read_options m x ≡ Ok r))
wrote m laws bs o free x q =
    let f = chain (read_filter m bs) (λ r. fitting (walk 0 bs) r >>= λ _. cond (ltb free (length (written r))) (Err (fault 16 0 1)) (Ok (written r))) q in
    let r = f.0 in
    let g = chain (fitting (walk 0 bs) r) (λ _. cond (ltb free (length (written r))) (Err (fault 16 0 1)) (Ok (written r))) f.1.1 in
    let d = passed (ltb free (length (written r))) (fault 16 0 1) (Ok (written r)) g.1.1 in
    let is : written r ≡ x = ok_same d.1 in
    let inner = read_inside m laws bs r f.1.0 in
    let back = again_options m laws r (all_steady m laws bs o r inner) (fits_all (read_option m) (walk 0 bs) r inner g.1.0) in
    (r, (f.1.0, is, ap (read_options m) (sym is) ∙ back))

pub canonical : Canonical
canonical m laws bs cs ob oc free free' x y p q =
    let f = wrote m laws bs ob free x p in
    let g = wrote m laws cs oc free' y q in (
      (λ e. f.1.0 ∙ sym f.1.2 ∙ ap (read_options m) e ∙ g.1.2 ∙ sym g.1.0),
      (λ e. sym f.1.1 ∙ ap written (ok_same (sym f.1.0 ∙ e ∙ g.1.0)) ∙ g.1.1),
    )
