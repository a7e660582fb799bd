-- An action, as it is read, is read again from what is written. Assumes nothing.
use Rattle.std.proofs.Common.{◌≡◌, ℕ, zero, suc, ◌+◌, ◌<◌, ◌≤◌, Bool, true, false, eqb, List, [], ◌∷◌, ◌++◌, map, length, get_or, Ok, sym, refl, ap, ◌∙◌, subst, arith, length-append, eqb-true}
use borrow.Author.Tests.{eqb-false}
use Rattle.std.proofs.ByRecursion.{All-weaker}
use Rattle.std.specs.List.{AllByRecursion}
use Rattle.model.specs.Numbers.{Bytes, Octets}
use Rattle.model.specs.Faults.{Read, ◌>>=◌}
use Rattle.model.specs.Attributes.{type_of, rounded, Attribute, Writable, encode, encode_all}
use Rattle.model.specs.Walk.{Walked, done, bad, item, walk, found}
use Rattle.model.specs.Book.{Meaning, BookLaws}
use Rattle.model.specs.Reading.{each, u32, text, ActionAttribute, kind, options, index, in_hw_count, AttributeForm, attribute_forms, read_as, read_attribute, kinds, the_kind, Action, read_action, as_read}
use Rattle.model.specs.Writing.{write_attribute, write_action}
use Rattle.model.proofs.Walk.{walk_of_encode, length-encode}
use Rattle.model.proofs.Each.{err-not-ok, ok_same, chain, walk_sound, each_all, each-found, all_mapped}
use Rattle.model.proofs.ActionAttributes.{own_kind, Steady, steady}

abbrev pub own_kinds : List ActionAttribute → List Bytes
own_kinds [] = []
own_kinds (a ∷ l) = own_kind a ++ own_kinds l

-- an attribute of another type than 1 has no kind text
module _ (m : Meaning) (k : Bytes) (p w : ℕ) (x : Bytes) (a : ActionAttribute) where
  none-at : (t : ℕ) → ¬ (t ≡ 1) → read_as m (get_or attribute_forms t AttributeForm.as_default) k p w x ≡ Ok a → own_kind a ≡ []
  none-at zero n q = ap own_kind (sym (ok_same q))
  none-at (suc zero) n q = absurd (n refl)
  none-at (suc (suc zero)) n q = let g = chain (each 4 (λ q v y. as_read q (m k v y)) (walk (p + 4) x)) (λ l. Ok (options l)) q in ap own_kind (sym (ok_same g.1.1))
  none-at (suc (suc (suc zero))) n q = let g = chain (u32 p 3 x) (λ n. Ok (index n)) q in ap own_kind (sym (ok_same g.1.1))
  none-at (suc (suc (suc (suc zero)))) n q = ap own_kind (sym (ok_same q))
  none-at (suc (suc (suc (suc (suc zero))))) n q = ap own_kind (sym (ok_same q))
  none-at (suc (suc (suc (suc (suc (suc zero)))))) n q = ap own_kind (sym (ok_same q))
  none-at (suc (suc (suc (suc (suc (suc (suc zero))))))) n q = ap own_kind (sym (ok_same q))
  none-at (suc (suc (suc (suc (suc (suc (suc (suc zero)))))))) n q = ap own_kind (sym (ok_same q))
  none-at (suc (suc (suc (suc (suc (suc (suc (suc (suc zero))))))))) n q = ap own_kind (sym (ok_same q))
  none-at (suc (suc (suc (suc (suc (suc (suc (suc (suc (suc zero)))))))))) n q = let g = chain (u32 p 3 x) (λ n. Ok (in_hw_count n)) q in ap own_kind (sym (ok_same g.1.1))
  none-at (suc (suc (suc (suc (suc (suc (suc (suc (suc (suc (suc t))))))))))) n q = ap own_kind (sym (ok_same q))

  -- what the first walk hears of an attribute that reads
  heard_of : (r : Walked) (l : List Bytes) (t : Bool) → eqb (type_of w) 1 ≡ t → read_attribute m k p w x ≡ Ok a → kinds (item p w x r) ≡ Ok l →
      (l' : List Bytes) × ((kinds r ≡ Ok l') × (l ≡ own_kind a ++ l'))
  heard_of r l true e q h =
      let one : type_of w ≡ 1 = eqb-true (type_of w) 1 e in
      let q' : read_as m AttributeForm.as_kind k p w x ≡ Ok a = subst (λ (n : ℕ). read_as m (get_or attribute_forms n AttributeForm.as_default) k p w x ≡ Ok a) one q in
      let g = chain (text p 3 x) (λ t. Ok (kind t)) q' in
      let h' : (text p 3 x >>= (λ t. kinds r >>= λ l. Ok (t ∷ l))) ≡ Ok l = rw (e, kinds) at h in
      let f = chain (text p 3 x) (λ t. kinds r >>= λ l. Ok (t ∷ l)) h' in
      let d = chain (kinds r) (λ l. Ok (f.0 ∷ l)) f.1.1 in
      let same : f.0 ≡ g.0 = ok_same (sym f.1.0 ∙ g.1.0) in
      (d.0, (d.1.0, sym (ok_same d.1.1) ∙ ap (λ (t : Bytes). t ∷ d.0) same ∙ ap (λ (b : ActionAttribute). own_kind b ++ d.0) (ok_same g.1.1)))
  heard_of r l false e q h =
      let h' : kinds r ≡ Ok l = rw (e, kinds) at h in
      (l, (h', ap (λ (t : List Bytes). t ++ l) (sym (none-at (type_of w) (eqb-false (type_of w) 1 e) q))))

module _ (m : Meaning) (laws : BookLaws m) where
  kinds_of : (k : Bytes) (s : Walked) (l : List Bytes) (as' : List ActionAttribute) → kinds s ≡ Ok l → each 3 (read_attribute m k) s ≡ Ok as' → l ≡ own_kinds as'
  kinds_of k done l as' h q = sym (ok_same h) ∙ ap own_kinds (ok_same q)
  kinds_of k (bad c p) l as' h q = err-not-ok _ l h
  kinds_of k (item p w x r) l as' h q =
      let one = chain (read_attribute m k p w x) (λ a. each 3 (read_attribute m k) r >>= λ l'. Ok (a ∷ l')) q in
      let more = chain (each 3 (read_attribute m k) r) (λ l'. Ok (one.0 ∷ l')) one.1.1 in
      let d = heard_of m k p w x one.0 r l (eqb (type_of w) 1) refl one.1.0 h in
      d.1.1 ∙ ap (λ (t : List Bytes). own_kind one.0 ++ t) (kinds_of k r d.0 more.0 d.1.0 more.1.0) ∙ ap own_kinds (ok_same more.1.1)

  pub record SteadyAction (a : Action) : Type 0 where
    pub tab14 : a.tab < 16384
    pub all_steady : AllByRecursion (Steady m a.kind_text) a.attributes
    pub one-kind : own_kinds a.attributes ≡ a.kind_text ∷ []

  the_kind_is : (p : ℕ) (l : List Bytes) (k : Bytes) → the_kind p l ≡ Ok k → l ≡ k ∷ []
  the_kind_is p [] k q = err-not-ok _ k q
  the_kind_is p (t ∷ []) k q = ap (λ (u : Bytes). u ∷ []) (ok_same q)
  the_kind_is p (t ∷ u ∷ l) k q = err-not-ok _ k q

  pub action_steady : (p w : ℕ) (x : Bytes) → w < 65536 → Octets x → length x ≤ 65531 → (a : Action) → read_action m p w x ≡ Ok a → SteadyAction a
  action_steady p w x hw o short a q =
      let s = walk (p + 4) x in
      let f = chain (kinds s) (λ l. the_kind p l >>= λ k. each 3 (read_attribute m k) s >>= λ as'. Ok (record { tab = type_of w; kind_text = k; attributes = as' })) q in
      let g = chain (the_kind p f.0) (λ k. each 3 (read_attribute m k) s >>= λ as'. Ok (record { tab = type_of w; kind_text = k; attributes = as' })) f.1.1 in
      let d = chain (each 3 (read_attribute m g.0) s) (λ as'. Ok (record { tab = type_of w; kind_text = g.0; attributes = as' })) g.1.1 in
      let made : SteadyAction (record { tab = type_of w; kind_text = g.0; attributes = d.0 }) = record {
        tab14 = omega arith;
        all_steady = each_all (Steady m g.0) 3 (read_attribute m g.0) (steady m laws g.0) s (walk_sound (length x) (p + 4) x o) d.0 d.1.0;
        one-kind = sym (kinds_of g.0 s f.0 d.0 f.1.0 d.1.0) ∙ the_kind_is p f.0 g.0 g.1.0;
      } in
      subst SteadyAction (ok_same d.1.1) made

  kinds-found : (k : Bytes) (l : List ActionAttribute) → AllByRecursion (Steady m k) l → (p : ℕ) → kinds (found p (map write_attribute l)) ≡ Ok (own_kinds l)
  kinds-found k [] s p = refl
  kinds-found k (a ∷ l) s p =
      s.0.heard p (found (p + rounded (4 + length (write_attribute a).payload)) (map write_attribute l)) (own_kinds l) (kinds-found k l s.1 (p + rounded (4 + length (write_attribute a).payload)))

-- each payload is shorter than the whole
pub all_short : {A : Type 0} (w : A → Attribute) (n : ℕ) (l : List A) → length (encode_all (map w l)) ≤ n → AllByRecursion (λ a. length (w a).payload ≤ n) l
all_short w n [] h = tt
all_short w n (a ∷ l) h =
    let size : length (encode (w a) ++ encode_all (map w l)) ≡ length (encode (w a)) + length (encode_all (map w l)) = length-append (encode (w a)) (encode_all (map w l)) in
    let one : length (encode (w a)) ≡ rounded (4 + length (w a).payload) = length-encode (w a) in
    (omega arith, all_short w n l (omega arith))

pub all_both : {A : Type 0} (P Q : A → Type 0) (l : List A) → AllByRecursion P l → AllByRecursion Q l → AllByRecursion (λ a. P a × Q a) l
all_both P Q [] f g = tt
all_both P Q (a ∷ l) f g = ((f.0, g.0), all_both P Q l f.1 g.1)

module _ (m : Meaning) (laws : BookLaws m) where
  pub action_again : (a : Action) → SteadyAction m laws a → (p : ℕ) → length (write_action a).payload ≤ 65531 → read_action m p (write_action a).word (write_action a).payload ≡ Ok a
  action_again a s p short =
      let k = a.kind_text in
      let l = a.attributes in
      let small : a.tab < 16384 = s.tab14 in
      let tab : type_of a.tab ≡ a.tab = omega arith in
      let both = all_both (Steady m k) (λ b. length (write_attribute b).payload ≤ 65531) l s.all_steady (all_short write_attribute 65531 l short) in
      let ok = all_mapped (λ b. Steady m k b × (length (write_attribute b).payload ≤ 65531)) Writable write_attribute (λ b h. record { word16 = h.0.word16; short = h.1 }) l both in
      let walked : walk (p + 4) (encode_all (map write_attribute l)) ≡ found (p + 4) (map write_attribute l) = walk_of_encode (p + 4) (map write_attribute l) ok in
      let heard : kinds (found (p + 4) (map write_attribute l)) ≡ Ok (k ∷ []) = kinds-found m laws k l s.all_steady (p + 4) ∙ ap {B = Read (List Bytes)} Ok s.one-kind in
      let reads : each 3 (read_attribute m k) (found (p + 4) (map write_attribute l)) ≡ Ok l =
      each-found 3 (read_attribute m k) write_attribute l
      (All-weaker (λ b. Steady m k b × (length (write_attribute b).payload ≤ 65531)) (λ b. (p : ℕ) → read_attribute m k p (write_attribute b).word (write_attribute b).payload ≡ Ok b) (λ b h q. h.0.again q h.1) l both) (p + 4) in
      rw (walked, heard, reads, tab)
