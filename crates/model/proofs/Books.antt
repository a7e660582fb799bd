-- The plain and the shipped book keep the laws. Assumes nothing.
use Rattle.std.proofs.Common.{◌≡◌, ℕ, ◌<◌, ◌≤◌, Bool, true, false, cond, eqb, ltb, [], ◌∷◌, length, get_or, take, sym, refl, ap, ◌∙◌, subst, arith, ltb-false, le-ltb, eq-eqb, eqb-true}
use Rattle.std.proofs.lemmas.List.{take-take, length-take-le}
use Rattle.model.specs.Numbers.{Bytes, Octets}
use Rattle.model.specs.Attributes.{type_of}
use Rattle.model.specs.Book.{accept, refuse, BookLaws, plain}
use Rattle.model.specs.Shipped.{Form, exact, at_least, flag, default, truth, judge, forms, shipped, BooksLawful}
use Rattle.model.proofs.Each.{octets_take}

word_same : {w w' : ℕ} {x x' : Bytes} → accept w x ≡ accept w' x' → w ≡ w'
word_same q = cc

payload_same : {w w' : ℕ} {x x' : Bytes} → accept w x ≡ accept w' x' → x ≡ x'
payload_same q = cc

clash : {A : Type 0} (w : ℕ) (x : Bytes) (n d : ℕ) → accept w x ≡ refuse n d → A
clash w x n d q = let z : ◌≡◌ {A = ℕ} 0 1 = cc in absurd (omega arith)

number_same : {n n' d d' : ℕ} → refuse n d ≡ refuse n' d' → n ≡ n'
number_same q = cc

pub plain_laws : BookLaws plain
plain_laws = record {
  shorter = λ k w x w' x' q. let e : length x ≡ length x' = ap length (payload_same q) in omega arith;
  settled = λ k w x w' x' q. refl;
  word16 = λ k w x w' x' h q. subst (λ n. n < 65536) (word_same q) h;
  octets = λ k w x w' x' o q. subst Octets (payload_same q) o;
  numbered = λ k w x n d q. clash w x n d q;
}

-- a passed or a failed test, by the answer
took : (t : Bool) (w n d w' : ℕ) (x x' : Bytes) → cond t (accept w x) (refuse n d) ≡ accept w' x' → (t ≡ true) × (w ≡ w') × (x ≡ x')
took true w n d w' x x' q = (refl, word_same q, payload_same q)
took false w n d w' x x' q = clash w' x' n d (sym q)

left : (t : Bool) (w n d w' : ℕ) (x x' : Bytes) → cond t (refuse n d) (accept w x) ≡ accept w' x' → (t ≡ false) × (w ≡ w') × (x ≡ x')
left true w n d w' x x' q = clash w' x' n d (sym q)
left false w n d w' x x' q = (refl, word_same q, payload_same q)

-- what an accepted option tells
record Judged (f : Form) (w : ℕ) (x : Bytes) (w' : ℕ) (x' : Bytes) : Type 0 where
  shorter : length x' ≤ length x
  type_kept : type_of w' ≡ type_of w
  word16 : w < 65536 → w' < 65536
  octets : Octets x → Octets x'
  again : judge f w' x' ≡ accept w' x'

at : (f : Form) (w : ℕ) (x : Bytes) {w₁ w₂ : ℕ} {x₁ x₂ : Bytes} → w₁ ≡ w₂ → x₁ ≡ x₂ → Judged f w x w₁ x₁ → Judged f w x w₂ x₂
at f w x {w₁} {w₂} {x₁} {x₂} e g j = subst (λ (v : ℕ). Judged f w x v x₂) e (subst (λ (y : Bytes). Judged f w x w₁ y) g j)

type_twice : (w : ℕ) → type_of (type_of w) ≡ type_of w
type_twice w = omega arith

truth-length : (x : Bytes) → length x ≡ 1 → length (truth x) ≡ 1
truth-length [] h = h
truth-length (b ∷ bs) h = refl

truth_octets : (x : Bytes) → Octets (truth x)
truth_octets [] = tt
truth_octets (b ∷ bs) = go (eqb b 0)
  where
    go : (t : Bool) → Octets (cond t 0 1 ∷ [])
    go true = (omega arith, tt)
    go false = (omega arith, tt)

truth_twice : (x : Bytes) → truth (truth x) ≡ truth x
truth_twice [] = refl
truth_twice (b ∷ bs) = go (eqb b 0)
  where
    go : (t : Bool) → truth (cond t 0 1 ∷ []) ≡ cond t 0 1 ∷ []
    go true = refl
    go false = refl

judged : (f : Form) (w : ℕ) (x : Bytes) (w' : ℕ) (x' : Bytes) → judge f w x ≡ accept w' x' → Judged f w x w' x'
judged (exact n) w x w' x' q =
    let t = took (eqb (length x) n) (type_of w) 12 n w' x x' q in
    at (exact n) w x t.1 t.2 (record {
      shorter = omega arith;
      type_kept = type_twice w;
      word16 = λ h. omega arith;
      octets = λ o. o;
      again = rw (t.0, type_twice w);
    })
judged (at_least n) w x w' x' q =
    let t = left (ltb (length x) n) (type_of w) 13 n w' (take n x) x' q in
    let long : n ≤ length x = ltb-false (length x) n t.0 in
    let size : length (take n x) ≡ n = length-take-le n x long in
    at (at_least n) w x t.1 t.2 (record {
      shorter = omega arith;
      type_kept = type_twice w;
      word16 = λ h. omega arith;
      octets = λ o. octets_take n x o;
      again = rw (le-ltb (length (take n x)) n (omega arith), type_twice w, take-take n n x (omega arith));
    })
judged flag w x w' x' q =
    let t = took (eqb (length x) 1) (type_of w) 12 1 w' (truth x) x' q in
    let one : length x ≡ 1 = eqb-true (length x) 1 t.0 in
    let size : length (truth x) ≡ 1 = truth-length x one in
    at flag w x t.1 t.2 (record {
      shorter = omega arith;
      type_kept = type_twice w;
      word16 = λ h. omega arith;
      octets = λ o. truth_octets x;
      again = rw (eq-eqb (length (truth x)) 1 size, type_twice w, truth_twice x);
    })
judged default w x w' x' q =
    at default w x (word_same q) (payload_same q) (record { shorter = omega arith; type_kept = refl; word16 = λ h. h; octets = λ o. o; again = refl })

refusal : (f : Form) (w : ℕ) (x : Bytes) (n d : ℕ) → judge f w x ≡ refuse n d → (1 ≤ n) × (n ≤ 255)
refusal (exact a) w x n d q = go (eqb (length x) a) q
  where
    go : (t : Bool) → cond t (accept (type_of w) x) (refuse 12 a) ≡ refuse n d → (1 ≤ n) × (n ≤ 255)
    go true q = clash (type_of w) x n d q
    go false q = let e : 12 ≡ n = number_same q in (omega arith, omega arith)
refusal (at_least a) w x n d q = go (ltb (length x) a) q
  where
    go : (t : Bool) → cond t (refuse 13 a) (accept (type_of w) (take a x)) ≡ refuse n d → (1 ≤ n) × (n ≤ 255)
    go true q = let e : 13 ≡ n = number_same q in (omega arith, omega arith)
    go false q = clash (type_of w) (take a x) n d q
refusal flag w x n d q = go (eqb (length x) 1) q
  where
    go : (t : Bool) → cond t (accept (type_of w) (truth x)) (refuse 12 1) ≡ refuse n d → (1 ≤ n) × (n ≤ 255)
    go true q = clash (type_of w) (truth x) n d q
    go false q = let e : 12 ≡ n = number_same q in (omega arith, omega arith)
refusal default w x n d q = clash w x n d q

abbrev form_of : Bytes → ℕ → Form
form_of k w = get_or (forms k) (type_of w) default

facts : (k : Bytes) (w : ℕ) (x : Bytes) (w' : ℕ) (x' : Bytes) → shipped k w x ≡ accept w' x' → Judged (form_of k w) w x w' x'
facts k w x w' x' q = judged (form_of k w) w x w' x' q

pub shipped_laws : BookLaws shipped
shipped_laws = record {
  shorter = λ k w x w' x' q. (facts k w x w' x' q).shorter;
  settled = λ k w x w' x' q. let j = facts k w x w' x' q in ap (λ (t : ℕ). judge (get_or (forms k) t default) w' x') j.type_kept ∙ j.again;
  word16 = λ k w x w' x' h q. (facts k w x w' x' q).word16 h;
  octets = λ k w x w' x' o q. (facts k w x w' x' q).octets o;
  numbered = λ k w x n d q. refusal (form_of k w) w x n d q;
}

pub books_lawful : BooksLawful
books_lawful = (plain_laws, shipped_laws)
