-- What an option that was read tells a book is what the shipped book's table says of its form. Assumes nothing.
use Rattle.std.proofs.Common.{◌≡◌, ℕ, ◌+◌, ◌*◌, ◌<◌, ◌≤◌, Bool, true, false, cond, not, eqb, ltb, [], ◌∷◌, length, get_or, take, Ok, Err, refl, ap, ◌∙◌, arith, w8, Fits, ltb-false, eqb-true}
use Rattle.std.proofs.ByRecursion.{All-from_get_or}
use Rattle.std.proofs.lemmas.List.{take_all}
use Rattle.model.specs.Numbers.{Bytes, Octets, le, be, be_bytes}
use Rattle.model.specs.Records.{Layout, Lawful}
use Rattle.model.specs.Book.{accept, refuse}
use Rattle.model.specs.Shipped.{truth}
use Rattle.model.proofs.RecordLaws.{be_back}
use Rattle.payload.specs.Errors.{lack}
use Rattle.payload.specs.Payloads.{exactly}
use Rattle.tc_options.specs.Carried.{carried, record_in}
use Rattle.tc.specs.Families.{told}

-- bytes of the code are bytes
pub octets : (x : Bytes) → ((i : ℕ) → Fits w8 (get_or x i 0)) → Octets x
octets x h = All-from_get_or (λ b. b < 256) x 0 (λ i _. (h i).fits)

module _ {M R O : Type 0} (l : Layout M) (of : M → R) (as' : R → M) (f : R → O) (word : O → ℕ) (payload : O → Bytes) (t : ℕ) (x : Bytes) where
  record_by : (b : Bool) → ltb (length x) l.size ≡ b → word (f (of (l.decode x))) ≡ t → payload (f (of (l.decode x))) ≡ l.encode (as' (of (l.decode x))) →
      as' (of (l.decode x)) ≡ l.decode x → Lawful l → Octets x →
      told word payload (carried f (cond b (Err (lack 13 l.size)) (Ok (of (l.decode x))))) ≡ cond b (refuse 13 l.size) (accept t (take l.size x))
  record_by true e w p s law o = refl
  record_by false e w p s law o =
      let long : l.size ≤ length x = ltb-false (length x) l.size e in
      let bytes : payload (f (of (l.decode x))) ≡ take l.size x = p ∙ ap l.encode s ∙ law x o long in
      λ i. accept (w i) (bytes i)

  -- a record
  pub record_told : word (f (of (l.decode x))) ≡ t → payload (f (of (l.decode x))) ≡ l.encode (as' (of (l.decode x))) → as' (of (l.decode x)) ≡ l.decode x → Lawful l → Octets x →
      told word payload (record_in l of f x) ≡ cond (ltb (length x) l.size) (refuse 13 l.size) (accept t (take l.size x))
  record_told w p s law o = record_by (ltb (length x) l.size) refl w p s law o

module _ {A O : Type 0} (n : ℕ) (g : Bytes → A) (f : A → O) (word : O → ℕ) (payload : O → Bytes) (t : ℕ) (x y : Bytes) where
  exact_by : (b : Bool) → eqb (length x) n ≡ b → word (f (g x)) ≡ t → (length x ≡ n → payload (f (g x)) ≡ y) →
      told word payload (carried f (cond b (Ok (g x)) (Err (lack 12 n)))) ≡ cond b (accept t y) (refuse 12 n)
  exact_by true e w p = let bytes : payload (f (g x)) ≡ y = p (eqb-true (length x) n e) in λ i. accept (w i) (bytes i)
  exact_by false e w p = refl

  -- a payload of an exact length
  pub exact-told : word (f (g x)) ≡ t → (length x ≡ n → payload (f (g x)) ≡ y) → told word payload (carried f (exactly n g x)) ≡ cond (eqb (length x) n) (accept t y) (refuse 12 n)
  exact-told w p = exact_by (eqb (length x) n) refl w p

-- a big-endian number is written as it was read
pub be_again : (n : ℕ) (x : Bytes) → Octets x → length x ≡ n → be_bytes n (be 0 n x) ≡ x
be_again n x o e = be_back x o 0 n (omega arith) ∙ take_all n x (omega arith)

-- and so is one byte; a flag is written 0 or 1
pub byte_again : (x : Bytes) → length x ≡ 1 → le 0 1 x ∷ [] ≡ x
byte_again [] h = absurd (omega arith)
byte_again (b ∷ []) h = let e : b + 256 * 0 ≡ b = omega arith in ap {B = Bytes} (λ v. v ∷ []) e
byte_again (b ∷ c ∷ x) h = absurd (omega arith)

flag : (t : Bool) → ◌≡◌ {A = Bytes} (cond (not t) 1 0 ∷ []) (cond t 0 1 ∷ [])
flag true = refl
flag false = refl

pub flag_again : (x : Bytes) → length x ≡ 1 → cond (not (eqb (le 0 1 x) 0)) 1 0 ∷ [] ≡ truth x
flag_again [] h = absurd (omega arith)
flag_again (b ∷ []) h = let e : b + 256 * 0 ≡ b = omega arith in ap {B = Bytes} (λ v. cond (not (eqb v 0)) 1 0 ∷ []) e ∙ flag (eqb b 0)
flag_again (b ∷ c ∷ x) h = absurd (omega arith)
