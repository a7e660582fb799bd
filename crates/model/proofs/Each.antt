-- What a walk over bytes finds is bytes, and what holds of each attribute that is read. Assumes nothing.
use Rattle.std.proofs.Common.{◌≡◌, ℕ, zero, suc, ◌+◌, ◌-◌, ◌/◌, ◌<◌, ◌≤◌, Bool, true, false, cond, ltb, List, [], ◌∷◌, ◌++◌, map, length, take, drop, Ok, Err, refl, ap, ◌∙◌, subst, arith, length-take}
use Rattle.std.specs.List.{AllByRecursion}
use Rattle.std.proofs.ByRecursion.{All-take, All-drop, All-append, All-map, All-weaker}
use Rattle.model.specs.Numbers.{Bytes, Octets, number, bytes_of}
use Rattle.model.specs.Faults.{Read, ◌>>=◌, FaultNumbers}
use Rattle.model.specs.Attributes.{rounded, Attribute, Writable, encode_all}
use Rattle.model.specs.Walk.{Walked, done, bad, item, walk_in, walk, found}
use Rattle.model.specs.Reading.{each}
use Rattle.model.proofs.Walk.{walk_of_encode}

-- ── results ──
pub err-not-ok : {A B : Type 0} (e : FaultNumbers) (a : A) → ◌≡◌ {A = Read A} (Err e) (Ok a) → B
err-not-ok e a q = let z : ◌≡◌ {A = ℕ} 0 1 = cc in absurd (omega arith)

pub ok_same : {A : Type 0} {a b : A} → ◌≡◌ {A = Read A} (Ok a) (Ok b) → a ≡ b
ok_same q = cc

-- a chain that is Ok has an Ok at its first link
pub chain : {A B : Type 0} (r : Read A) (f : A → Read B) {b : B} → (r >>= f) ≡ Ok b → (a : A) × ((r ≡ Ok a) × (f a ≡ Ok b))
chain (Ok a) f q = (a, (refl, q))
chain (Err e) f {b} q = err-not-ok e b q

-- a test that must fail for an Ok
pub passed : {A : Type 0} (t : Bool) (e : FaultNumbers) (r : Read A) {a : A} → cond t (Err e) r ≡ Ok a → (t ≡ false) × (r ≡ Ok a)
passed true e r {a} q = err-not-ok e a q
passed false e r q = (refl, q)

pub met : {A : Type 0} (t : Bool) (e : FaultNumbers) (r : Read A) {a : A} → cond t r (Err e) ≡ Ok a → (t ≡ true) × (r ≡ Ok a)
met true e r q = (refl, q)
met false e r {a} q = err-not-ok e a q

-- ── what holds of each element ──
pub all_mapped : {A B : Type 0} (P : A → Type 0) (Q : B → Type 0) (f : A → B) → ((a : A) → P a → Q (f a)) → (l : List A) → AllByRecursion P l → AllByRecursion Q (map f l)
all_mapped P Q f h l ok = All-map Q f l (All-weaker P (λ a. Q (f a)) h l ok)

-- ── bytes ──
pub octets_take : (n : ℕ) (bs : Bytes) → Octets bs → Octets (take n bs)
octets_take = All-take (λ b. b < 256)

pub octets_drop : (n : ℕ) (bs : Bytes) → Octets bs → Octets (drop n bs)
octets_drop = All-drop (λ b. b < 256)

pub octets_append : (xs ys : Bytes) → Octets xs → Octets ys → Octets (xs ++ ys)
octets_append = All-append (λ b. b < 256)

pub octets_bytes : (n v : ℕ) → Octets (bytes_of n v)
octets_bytes zero v = tt
octets_bytes (suc n) v = (omega arith, octets_bytes n (v / 256))

-- ── the walk ──
abbrev pub Sound : Walked → Type 0
Sound done = Unit {0}
Sound (bad c p) = Unit {0}
Sound (item p w x r) = (w < 65536) × (Octets x) × (length x ≤ 65531) × Sound r

sound_test : (t u : Bool) (p : ℕ) (r : Walked) → (t ≡ false → u ≡ false → Sound r) → Sound (elim t [ true ↦ bad 7 p | false ↦ elim u [ true ↦ bad 8 p | false ↦ r ] ])
sound_test true u p r h = tt
sound_test false true p r h = tt
sound_test false false p r h = h refl refl

pub walk_sound : (n p : ℕ) (bs : Bytes) → Octets bs → Sound (walk_in n p bs)
walk_sound zero p bs o = tt
walk_sound (suc n) p [] o = tt
walk_sound (suc n) p (a ∷ []) o = tt
walk_sound (suc n) p (a ∷ b ∷ []) o = tt
walk_sound (suc n) p (a ∷ b ∷ c ∷ []) o = tt
walk_sound (suc n) p (a ∷ b ∷ c ∷ d ∷ rest) o =
    let len : ℕ = number (a ∷ b ∷ []) in
    let ha : a < 256 = o.0 in
    let hb : b < 256 = o.1.0 in
    let hc : c < 256 = o.1.1.0 in
    let hd : d < 256 = o.1.1.1.0 in
    let or : Octets rest = o.1.1.1.1 in
    let short : length (take (len - 4) rest) ≤ 65531 = simp length-take (omega arith) in
    sound_test (ltb (4 + length rest) len) (ltb len 4) p _ (λ _ _. (omega arith, octets_take (len - 4) rest or, short, walk_sound n (p + rounded len) (drop (rounded len - 4) rest) (octets_drop (rounded len - 4) rest or)))

-- ── each ──
-- what holds of whatever the reader gives holds of all that is read
pub each_all : {A : Type 0} (P : A → Type 0) (layer : ℕ) (f : ℕ → ℕ → Bytes → Read A) →
    ((p w : ℕ) (x : Bytes) → w < 65536 → Octets x → length x ≤ 65531 → (a : A) → f p w x ≡ Ok a → P a) →
    (k : Walked) → Sound k → (l : List A) → each layer f k ≡ Ok l → AllByRecursion P l
each_all P layer f h done s l q = subst (AllByRecursion P) (ok_same q) tt
each_all P layer f h (bad c p) s l q = err-not-ok _ l q
each_all P layer f h (item p w x r) s l q =
    let one = chain (f p w x) (λ a. each layer f r >>= λ l'. Ok (a ∷ l')) q in
    let more = chain (each layer f r) (λ l'. Ok (one.0 ∷ l')) one.1.1 in
    subst (AllByRecursion P) (ok_same more.1.1) (h p w x s.0 s.1 s.2 one.0 one.1.0, each_all P layer f h r s.3 more.0 more.1.0)

-- a reader that reads back each thing written, at any place, reads back all
pub each-found : {A : Type 0} (layer : ℕ) (f : ℕ → ℕ → Bytes → Read A) (w : A → Attribute) (l : List A) → AllByRecursion (λ a. (p : ℕ) → f p (w a).word (w a).payload ≡ Ok a) l → (p : ℕ) →
    each layer f (found p (map w l)) ≡ Ok l
each-found layer f w [] h p = refl
each-found layer f w (a ∷ l) h p = rw (h.0 p, each-found layer f w l h.1 (p + rounded (4 + length (w a).payload)))

pub each-written : {A : Type 0} (layer : ℕ) (f : ℕ → ℕ → Bytes → Read A) (w : A → Attribute) (l : List A) → AllByRecursion (λ a. (p : ℕ) → f p (w a).word (w a).payload ≡ Ok a) l → AllByRecursion Writable (map w l) → (p : ℕ) →
    each layer f (walk p (encode_all (map w l))) ≡ Ok l
each-written layer f w l h ok p = ap (each layer f) (walk_of_encode p (map w l) ok) ∙ each-found layer f w l h p
