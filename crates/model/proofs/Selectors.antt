-- A selector, as it is read, is read again from what is written. Assumes nothing.
use Rattle.std.proofs.Common.{◌≡◌, ℕ, zero, suc, ◌+◌, ◌-◌, ◌*◌, ◌^◌, ◌<◌, ◌≤◌, Bool, true, false, cond, ltb, List, [], ◌∷◌, ◌++◌, reverse, length, take, drop, ℤ, pos, negsuc, Ok, Err, sym, refl, ap, ◌∙◌, subst, arith, length-take, le-ltb}
use mathlib.Core.List.{reverse_aux}
use native.Mathlib.Nat.{pow-le-pow_right}
use lib.ListN.{length-reverse}
use Rattle.std.specs.List.{AllByRecursion}
use Rattle.model.specs.Numbers.{Bytes, Octets, number, bytes_of, part, le, be, as_signed, as_unsigned}
use Rattle.model.specs.Faults.{Read, needing}
use Rattle.model.specs.Records.{Key, key}
use Rattle.model.specs.Selector.{Selector, wanted, keys_in, decode, encode_keys, encode}
use Rattle.model.specs.Reading.{read_selector}
use Rattle.model.specs.Laws.{SelectorReadsAgain}
use Rattle.model.proofs.Numbers.{number_bytes, number_lt}
use Rattle.model.proofs.Each.{octets_take, octets_drop, passed, ok_same}

-- ── numbers in a part of the bytes ──
pub number-take-lt : (n : ℕ) (bs : Bytes) → Octets bs → number (take n bs) < 256 ^ n
number-take-lt zero bs o = omega arith
number-take-lt (suc n) [] o = let h : number (take n []) < 256 ^ n = number-take-lt n [] tt in let e : number (take n []) ≡ 0 = nil n in let g : 0 < 256 ^ suc n = omega arith in g
  where
    nil : (n : ℕ) → number (take n []) ≡ 0
    nil zero = refl
    nil (suc n) = refl
number-take-lt (suc n) (b ∷ bs) o = let small : b < 256 = o.0 in let i : number (take n bs) < 256 ^ n = number-take-lt n bs o.1 in let g : b + 256 * number (take n bs) < 256 ^ suc n = omega arith in g

pub le-lt : (i n : ℕ) (bs : Bytes) → Octets bs → le i n bs < 256 ^ n
le-lt i n bs o = number-take-lt n (drop i bs) (octets_drop i bs o)

pub octets_reverseAux : (bs cs : Bytes) → Octets bs → Octets cs → Octets (reverse_aux bs cs)
octets_reverseAux [] cs o q = q
octets_reverseAux (b ∷ bs) cs o q = octets_reverseAux bs (b ∷ cs) o.1 (o.0, q)

pub be-lt : (i n : ℕ) (bs : Bytes) → Octets bs → be i n bs < 256 ^ n
be-lt i n bs o =
    let x = part i n bs in
    let ox : Octets (reverse x) = octets_reverseAux x [] (octets_take n (drop i bs) (octets_drop i bs o)) tt in
    let h : number (reverse x) < 256 ^ length (reverse x) = number_lt (reverse x) ox in
    let short : length (reverse x) ≤ n = simp (length-reverse, length-take) (omega arith) in
    let up : 256 ^ length (reverse x) ≤ 256 ^ n = pow-le-pow_right (omega arith) short in
    omega arith

-- two's complement and back
there_and_back : (N v : ℕ) → v < N → N - suc (N - suc v) ≡ v
there_and_back N v h = omega arith

pub signs : (n v : ℕ) (t : Bool) → v < 2 ^ (8 * n) → as_unsigned n (cond t (pos v) (negsuc (2 ^ (8 * n) - suc v))) ≡ v
signs n v true h = refl
signs n v false h = there_and_back (2 ^ (8 * n)) v h

-- a signed number that its bytes say again
abbrev pub Kept : ℕ → ℤ → Type 0
Kept n z = as_signed n (number (bytes_of n (as_unsigned n z))) ≡ z

kept : (n v : ℕ) → v < 2 ^ (8 * n) → v < 256 ^ n → Kept n (as_signed n v)
kept n v h g = ap (as_signed n) (ap (λ u. number (bytes_of n u)) (signs n v (ltb v (2 ^ (8 * n - 1))) h) ∙ number_bytes n v g)

-- ── keys ──
pub record KeptKey (k : Key) : Type 0 where
  pub mask : number (bytes_of 4 k.mask) ≡ k.mask
  pub val : number (bytes_of 4 k.val) ≡ k.val
  pub off : Kept 4 k.off
  pub offmask : Kept 4 k.offmask

key-kept : (bs : Bytes) → Octets bs → KeptKey (key.decode bs)
key-kept bs o = record {
  mask = number_bytes 4 (be 0 4 bs) (be-lt 0 4 bs o);
  val = number_bytes 4 (be 4 4 bs) (be-lt 4 4 bs o);
  off = kept 4 (le 8 4 bs) (le-lt 8 4 bs o) (le-lt 8 4 bs o);
  offmask = kept 4 (le 12 4 bs) (le-lt 12 4 bs o) (le-lt 12 4 bs o);
}

keys_kept : (n : ℕ) (bs : Bytes) → Octets bs → AllByRecursion KeptKey (keys_in n bs)
keys_kept zero bs o = tt
keys_kept (suc n) bs o = (key-kept bs o, keys_kept n (drop 16 bs) (octets_drop 16 bs o))

length-keys_in : (n : ℕ) (bs : Bytes) → length (keys_in n bs) ≡ n
length-keys_in zero bs = refl
length-keys_in (suc n) bs = ap suc (length-keys_in n (drop 16 bs))

key_again : (k : Key) (more : Bytes) → KeptKey k → key.decode (key.encode k ++ more) ≡ k
key_again k more h = λ i. record { mask = h.mask i; val = h.val i; off = h.off i; offmask = h.offmask i }

keys_again : (ks : List Key) → AllByRecursion KeptKey ks → keys_in (length ks) (encode_keys ks) ≡ ks
keys_again [] h = refl
keys_again (k ∷ ks) h = λ i. key_again k (encode_keys ks) h.0 i ∷ keys_again ks h.1 i

pub length-encode_keys : (ks : List Key) → length (encode_keys ks) ≡ 16 * length ks
length-encode_keys [] = refl
length-encode_keys (k ∷ ks) = let i : length (encode_keys ks) ≡ 16 * length ks = length-encode_keys ks in omega arith

-- ── the selector ──
pub record KeptSelector (s : Selector) : Type 0 where
  pub flags : number (bytes_of 1 s.flags) ≡ s.flags
  pub offshift : number (bytes_of 1 s.offshift) ≡ s.offshift
  pub nkeys : number (bytes_of 1 s.nkeys) ≡ s.nkeys
  pub offmask : number (bytes_of 2 s.offmask) ≡ s.offmask
  pub off : number (bytes_of 2 s.off) ≡ s.off
  pub offoff : Kept 2 s.offoff
  pub hoff : Kept 2 s.hoff
  pub hmask : number (bytes_of 4 s.hmask) ≡ s.hmask
  pub keys : AllByRecursion KeptKey s.keys
  pub many : length s.keys ≡ s.nkeys

pub selector-kept : (x : Bytes) → Octets x → KeptSelector (decode x)
selector-kept x o = record {
  flags = number_bytes 1 (le 0 1 x) (le-lt 0 1 x o);
  offshift = number_bytes 1 (le 1 1 x) (le-lt 1 1 x o);
  nkeys = number_bytes 1 (le 2 1 x) (le-lt 2 1 x o);
  offmask = number_bytes 2 (be 4 2 x) (be-lt 4 2 x o);
  off = number_bytes 2 (le 6 2 x) (le-lt 6 2 x o);
  offoff = kept 2 (le 8 2 x) (le-lt 8 2 x o) (le-lt 8 2 x o);
  hoff = kept 2 (le 10 2 x) (le-lt 10 2 x o) (le-lt 10 2 x o);
  hmask = number_bytes 4 (be 12 4 x) (be-lt 12 4 x o);
  keys = keys_kept (le 2 1 x) (drop 16 x) (octets_drop 16 x o);
  many = length-keys_in (le 2 1 x) (drop 16 x);
}

pub selector_again : (s : Selector) → KeptSelector s → decode (encode s) ≡ s
selector_again s h =
    let ks : keys_in (number (bytes_of 1 s.nkeys)) (encode_keys s.keys) ≡ s.keys =
    ap (λ (n : ℕ). keys_in n (encode_keys s.keys)) (h.nkeys ∙ sym h.many) ∙ keys_again s.keys h.keys in
    λ i. record {
      flags = h.flags i;
      offshift = h.offshift i;
      nkeys = h.nkeys i;
      offmask = h.offmask i;
      off = h.off i;
      offoff = h.offoff i;
      hoff = h.hoff i;
      hmask = h.hmask i;
      keys = ks i;
    }

pub read_selector_again : (p : ℕ) (s : Selector) → KeptSelector s → read_selector p (encode s) ≡ Ok s
read_selector_again p s h =
    let size : length (encode_keys s.keys) ≡ 16 * length s.keys = length-encode_keys s.keys in
    let many : length s.keys ≡ s.nkeys = h.many in
    let n : number (bytes_of 1 s.nkeys) ≡ s.nkeys = h.nkeys in
    let long : ltb (length (encode s)) 16 ≡ false = le-ltb (length (encode s)) 16 (omega arith) in
    let enough : ltb (length (encode s)) (wanted (encode s)) ≡ false = le-ltb (length (encode s)) (wanted (encode s)) (omega arith) in
    ap (λ (t : Bool). cond t (Err (needing 13 p 1 16)) (cond (ltb (length (encode s)) (wanted (encode s))) (Err (needing 13 p 1 (wanted (encode s)))) (Ok (decode (encode s))))) long
    ∙ ap (λ (t : Bool). cond t (Err (needing 13 p 1 (wanted (encode s)))) (Ok (decode (encode s)))) enough
    ∙ ap {B = Read Selector} Ok (selector_again s h)

pub selector-read : (p : ℕ) (x : Bytes) (s : Selector) → Octets x → read_selector p x ≡ Ok s → KeptSelector s
selector-read p x s o q =
    let g = passed (ltb (length x) 16) (needing 13 p 1 16) (cond (ltb (length x) (wanted x)) (Err (needing 13 p 1 (wanted x))) (Ok (decode x))) q in
    let f = passed (ltb (length x) (wanted x)) (needing 13 p 1 (wanted x)) (Ok (decode x)) g.1 in
    subst KeptSelector (ok_same f.1) (selector-kept x o)

pub selector_reads_again : SelectorReadsAgain
selector_reads_again p q x s o e = read_selector_again q s (selector-read p x s o e)
