-- An action's attributes, as they are read, are read again from what is written. Assumes nothing.
use Rattle.std.proofs.Common.{◌≡◌, ℕ, zero, suc, ◌+◌, ◌<◌, ◌≤◌, Bool, true, false, cond, eqb, List, [], ◌∷◌, ◌++◌, map, length, get_or, Ok, sym, refl, ap, ◌∙◌, subst, arith, ne_eqb, eqb-true}
use Rattle.std.proofs.lemmas.List.{map-id}
use Rattle.std.proofs.ByRecursion.{All-weaker}
use Rattle.std.specs.List.{AllByRecursion}
use Rattle.model.specs.Numbers.{Bytes, Octets, number, bytes_of}
use Rattle.model.specs.Faults.{Read, fault, needing}
use Rattle.model.specs.Attributes.{type_of, Attribute, Writable, encode_all}
use Rattle.model.specs.Walk.{Walked, item, walk}
use Rattle.model.specs.Text.{is_text, stripped}
use Rattle.model.specs.Book.{Meaning, BookLaws, Answer, accept, refuse}
use Rattle.model.specs.Reading.{each, u32, text, as_read, ActionAttribute, kind, options, index, stats, cookie, in_hw_count, other, AttributeForm, attribute_forms, read_as, read_attribute, kinds}
use Rattle.model.specs.Writing.{write_attribute}
use Rattle.model.proofs.Numbers.{number_bytes, u32-lt}
use Rattle.model.proofs.Each.{err-not-ok, ok_same, chain, met, walk_sound, each_all, each-written, octets_append, all_mapped}

pub stripped_zero : (s : Bytes) → stripped (s ++ 0 ∷ []) ≡ s
stripped_zero [] = refl
stripped_zero (b ∷ []) = refl
stripped_zero (b ∷ c ∷ s) = ap {B = Bytes} (λ r. b ∷ r) (stripped_zero (c ∷ s))

-- the kind text that an attribute has
abbrev pub own_kind : ActionAttribute → List Bytes
own_kind (kind t) = t ∷ []
own_kind (options l) = []
own_kind (index n) = []
own_kind (stats x) = []
own_kind (cookie x) = []
own_kind (in_hw_count n) = []
own_kind (other w x) = []

-- an option that its book writes as itself
pub record Settled (m : Meaning) (k : Bytes) (a : Attribute) : Type 0 where
  pub accepted : m k a.word a.payload ≡ accept a.word a.payload
  pub writable : Writable a
  pub octets : Octets a.payload

-- what else is known of an attribute: its bytes, and that a default is no nest of options
abbrev pub Known : ActionAttribute → Type 0
Known (kind t) = Octets (t ++ 0 ∷ [])
Known (options l) = AllByRecursion (λ o. Writable o × Octets o.payload) l
Known (index n) = Unit {0}
Known (stats x) = Octets x
Known (cookie x) = Octets x
Known (in_hw_count n) = Unit {0}
Known (other w x) = (¬ (type_of w ≡ 2)) × Octets x

octets_stripped : (x : Bytes) → Octets x → Octets (stripped x)
octets_stripped [] o = tt
octets_stripped (b ∷ []) o = last (eqb b 0)
  where
    last : (t : Bool) → Octets (cond t [] (b ∷ []))
    last true = tt
    last false = o
octets_stripped (b ∷ c ∷ x) o = (o.0, octets_stripped (c ∷ x) o.1)

pub record Steady (m : Meaning) (k : Bytes) (a : ActionAttribute) : Type 0 where
  pub word16 : (write_attribute a).word < 65536
  pub again : (p : ℕ) → length (write_attribute a).payload ≤ 65531 → read_attribute m k p (write_attribute a).word (write_attribute a).payload ≡ Ok a
  pub known : Known a
  pub heard : (p : ℕ) (r : Walked) (l : List Bytes) → kinds r ≡ Ok l → kinds (item p (write_attribute a).word (write_attribute a).payload r) ≡ Ok (own_kind a ++ l)

was_accepted : (p : ℕ) (o : Answer) (a : Attribute) → as_read p o ≡ Ok a → o ≡ accept a.word a.payload
was_accepted p (accept w x) a q = ap (λ (b : Attribute). accept b.word b.payload) (ok_same q)
was_accepted p (refuse n d) a q = err-not-ok _ a q

u32_is : (p layer : ℕ) (x : Bytes) (n : ℕ) → Octets x → u32 p layer x ≡ Ok n → n < 4294967296
u32_is p layer x n o q =
    let g = met (eqb (length x) 4) (needing 12 p layer 4) (Ok (number x)) q in
    subst (λ k. k < 4294967296) (ok_same g.1) (u32-lt x o (eqb-true (length x) 4 g.0))

u32_again : (p layer n : ℕ) → n < 4294967296 → u32 p layer (bytes_of 4 n) ≡ Ok n
u32_again p layer n h = ap {B = Read ℕ} Ok (number_bytes 4 n h)

module _ (m : Meaning) (laws : BookLaws m) (k : Bytes) where
  settled : (p w : ℕ) (x : Bytes) → w < 65536 → Octets x → length x ≤ 65531 → (a : Attribute) → as_read p (m k w x) ≡ Ok a → Settled m k a
  settled p w x hw o short a q =
      let e = was_accepted p (m k w x) a q in
      let l : length a.payload ≤ length x = laws.shorter k w x a.word a.payload e in
      record { accepted = laws.settled k w x a.word a.payload e; writable = record { word16 = laws.word16 k w x a.word a.payload hw e; short = omega arith }; octets = laws.octets k w x a.word a.payload o e }

  as_read_again : (a : Attribute) → Settled m k a → (p : ℕ) → as_read p (m k a.word a.payload) ≡ Ok a
  as_read_again a s p = ap (as_read p) s.accepted

  options_again : (l : List Attribute) → AllByRecursion (Settled m k) l → (p : ℕ) → each 4 (λ q v y. as_read q (m k v y)) (walk p (encode_all l)) ≡ Ok l
  options_again l s p =
      let same : map (λ (a : Attribute). a) l ≡ l = map-id l in
      ap (λ (l' : List Attribute). each 4 (λ q v y. as_read q (m k v y)) (walk p (encode_all l'))) (sym same)
      ∙ each-written 4 (λ q v y. as_read q (m k v y)) (λ a. a) l (All-weaker (Settled m k) (λ a. (p : ℕ) → as_read p (m k a.word a.payload) ≡ Ok a) as_read_again l s)
      (all_mapped (Settled m k) Writable (λ a. a) (λ a t. t.writable) l s) p

  kind_steady : (s : Bytes) → Octets s → is_text s ≡ true → Steady m k (kind s)
  kind_steady s o h = record {
    known = octets_append s (0 ∷ []) o (omega arith, tt);
    word16 = omega arith;
    again = λ p _. rw (stripped_zero s, h);
    heard = λ p r l q. rw (stripped_zero s, h, q);
  }

  options_steady : (l : List Attribute) → AllByRecursion (Settled m k) l → Steady m k (options l)
  options_steady l s = record {
    known = All-weaker (Settled m k) (λ o. Writable o × Octets o.payload) (λ o t. (t.writable, t.octets)) l s;
    word16 = omega arith;
    again = λ p _. rw (options_again l s (p + 4));
    heard = λ p r l' q. q;
  }

  index_steady : (n : ℕ) → n < 4294967296 → Steady m k (index n)
  index_steady n h = record { known = tt; word16 = omega arith; again = λ p _. ap {B = Read ActionAttribute} (λ v. Ok (index v)) (number_bytes 4 n h); heard = λ p r l q. q }

  count_steady : (n : ℕ) → n < 4294967296 → Steady m k (in_hw_count n)
  count_steady n h = record { known = tt; word16 = omega arith; again = λ p _. ap {B = Read ActionAttribute} (λ v. Ok (in_hw_count v)) (number_bytes 4 n h); heard = λ p r l q. q }

  stats_steady : (x : Bytes) → Octets x → Steady m k (stats x)
  stats_steady x o = record { known = o; word16 = omega arith; again = λ p _. refl; heard = λ p r l q. q }

  cookie_steady : (x : Bytes) → Octets x → Steady m k (cookie x)
  cookie_steady x o = record { known = o; word16 = omega arith; again = λ p _. refl; heard = λ p r l q. q }

  other_steady : (w t : ℕ) (x : Bytes) → Octets x → w < 65536 → type_of w ≡ t → get_or attribute_forms t AttributeForm.as_default ≡ AttributeForm.as_default → ¬ (t ≡ 1) → ¬ (t ≡ 2) → Steady m k (other w x)
  other_steady w t x o hw e f not-one not-two = record {
    known = ((λ z. not-two (sym e ∙ z)), o);
    word16 = hw;
    again = λ p _. ap (λ (n : ℕ). read_as m (get_or attribute_forms n AttributeForm.as_default) k p w x) e ∙ ap (λ (g : AttributeForm). read_as m g k p w x) f;
    heard = λ p r l q. rw (ne_eqb (type_of w) 1 (λ z. not-one (sym e ∙ z)), kinds) q;
  }

  module _ (p w : ℕ) (x : Bytes) (hw : w < 65536) (o : Octets x) (short : length x ≤ 65531) (a : ActionAttribute) where
    steady_kind : read_as m AttributeForm.as_kind k p w x ≡ Ok a → Steady m k a
    steady_kind q =
        let g = chain (text p 3 x) (λ t. Ok (kind t)) q in
        let h = met (is_text (stripped x)) (fault 9 p 3) (Ok (stripped x)) g.1.0 in
        subst (Steady m k) (ok_same g.1.1) (kind_steady g.0 (subst Octets (ok_same h.1) (octets_stripped x o)) (ap is_text (sym (ok_same h.1)) ∙ h.0))

    steady_options : read_as m AttributeForm.as_options k p w x ≡ Ok a → Steady m k a
    steady_options q =
        let g = chain (each 4 (λ q v y. as_read q (m k v y)) (walk (p + 4) x)) (λ l. Ok (options l)) q in
        subst (Steady m k) (ok_same g.1.1) (options_steady g.0
        (each_all (Settled m k) 4 (λ q v y. as_read q (m k v y)) settled (walk (p + 4) x) (walk_sound (length x) (p + 4) x o) g.0 g.1.0))

    steady_u32 : (f : ℕ → ActionAttribute) → ((n : ℕ) → n < 4294967296 → Steady m k (f n)) → read_as m (AttributeForm.as_u32 f) k p w x ≡ Ok a → Steady m k a
    steady_u32 f h q =
        let g = chain (u32 p 3 x) (λ n. Ok (f n)) q in
        subst (Steady m k) (ok_same g.1.1) (h g.0 (u32_is p 3 x g.0 o g.1.0))

    by_type : (t : ℕ) → type_of w ≡ t → read_as m (get_or attribute_forms t AttributeForm.as_default) k p w x ≡ Ok a → Steady m k a
    by_type zero e q = subst (Steady m k) (ok_same q) (other_steady w 0 x o hw e refl (λ z. omega arith) (λ z. omega arith))
    by_type (suc zero) e q = steady_kind q
    by_type (suc (suc zero)) e q = steady_options q
    by_type (suc (suc (suc zero))) e q = steady_u32 index index_steady q
    by_type (suc (suc (suc (suc zero)))) e q = subst (Steady m k) (ok_same q) (stats_steady x o)
    by_type (suc (suc (suc (suc (suc zero))))) e q = subst (Steady m k) (ok_same q) (other_steady w 5 x o hw e refl (λ z. omega arith) (λ z. omega arith))
    by_type (suc (suc (suc (suc (suc (suc zero)))))) e q = subst (Steady m k) (ok_same q) (cookie_steady x o)
    by_type (suc (suc (suc (suc (suc (suc (suc zero))))))) e q = subst (Steady m k) (ok_same q) (other_steady w 7 x o hw e refl (λ z. omega arith) (λ z. omega arith))
    by_type (suc (suc (suc (suc (suc (suc (suc (suc zero)))))))) e q = subst (Steady m k) (ok_same q) (other_steady w 8 x o hw e refl (λ z. omega arith) (λ z. omega arith))
    by_type (suc (suc (suc (suc (suc (suc (suc (suc (suc zero))))))))) e q = subst (Steady m k) (ok_same q) (other_steady w 9 x o hw e refl (λ z. omega arith) (λ z. omega arith))
    by_type (suc (suc (suc (suc (suc (suc (suc (suc (suc (suc zero)))))))))) e q = steady_u32 in_hw_count count_steady q
    by_type (suc (suc (suc (suc (suc (suc (suc (suc (suc (suc (suc t))))))))))) e q = subst (Steady m k) (ok_same q) (other_steady w (suc (suc (suc (suc (suc (suc (suc (suc (suc (suc (suc t))))))))))) x o hw e refl (λ z. omega arith) (λ z. omega arith))

    pub steady : read_attribute m k p w x ≡ Ok a → Steady m k a
    steady q = by_type (type_of w) refl q
