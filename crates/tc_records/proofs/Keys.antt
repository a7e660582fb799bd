-- The keys of a selector, from its bytes and back. Assumes nothing.
use Rattle.std.proofs.Common.{◌≡◌, ℕ, zero, suc, ◌+◌, ◌-◌, ◌*◌, ◌<◌, ◌≤◌, cond, ltb, List, ◌∷◌, ◌++◌, reverse, length, take, drop, Some, None, Option, sym, refl, ap, ◌∙◌, ap₂, arith, length-drop, take-add}
use Rattle.std.proofs.lemmas.List.{take-take, drop-take, drop-drop}
use Rattle.std.proofs.lemmas.Bool.{cond-false, le-ltb}
use Rattle.model.specs.Numbers.{Bytes, Octets, number, part, as_signed}
use Rattle.model.specs.Records.{Key, key}
use Rattle.model.specs.Selector.{keys_in, encode_keys}
use Rattle.model.proofs.Each.{octets_drop}
use Rattle.model.proofs.RecordLaws.{records_lawful}
use Rattle.tc_records.specs.Layouts.{of_key}
use Rattle.tc_records.specs.Selectors.{nth_key}
use Rattle.tc_records.specs.declared.cls_u32.TcU32Key.{TcU32Key}

-- a part that ends before the bytes are cut off
part_front : (i n m : ℕ) (bs : Bytes) → i + n ≤ m → part i n (take m bs) ≡ part i n bs
part_front i n m bs h =
    let e : m ≡ i + (m - i) = omega arith in
    ap (λ (k : ℕ). part i n (take k bs)) e ∙ ap (take n) (drop-take i (m - i) bs) ∙ take-take n (m - i) (drop i bs) (omega arith)

key_front : (m : ℕ) (bs : Bytes) → 16 ≤ m → key.decode (take m bs) ≡ key.decode bs
key_front m bs h = λ i. record {
  mask = number (reverse (part_front 0 4 m bs (omega arith) i));
  val = number (reverse (part_front 4 4 m bs (omega arith) i));
  off = as_signed 4 (number (part_front 8 4 m bs (omega arith) i));
  offmask = as_signed 4 (number (part_front 12 4 m bs (omega arith) i));
}

more-keys : (n : ℕ) → 16 * suc n ≡ 16 + 16 * n
more-keys n = omega arith

-- n keys take 16 bytes each
pub keys_front : (n : ℕ) (bs : Bytes) → keys_in n (take (16 * n) bs) ≡ keys_in n bs
keys_front zero bs = refl
keys_front (suc n) bs =
    let rest : drop 16 (take (16 * suc n) bs) ≡ take (16 * n) (drop 16 bs) = ap (λ (k : ℕ). drop 16 (take k bs)) (more-keys n) ∙ drop-take 16 (16 * n) bs in
    ap₂ (λ (k : Key) (ks : List Key). k ∷ ks) (key_front (16 * suc n) bs (omega arith)) (ap (keys_in n) rest ∙ keys_front n (drop 16 bs))

-- written, they are those bytes
pub keys-written : (n : ℕ) (bs : Bytes) → Octets bs → 16 * n ≤ length bs → encode_keys (keys_in n bs) ≡ take (16 * n) bs
keys-written zero bs o h = refl
keys-written (suc n) bs o h =
    let size : length (drop 16 bs) ≡ length bs - 16 = length-drop 16 bs in
    ap₂ (λ (x y : Bytes). x ++ y) (records_lawful.0 bs o (omega arith)) (keys-written n (drop 16 bs) (octets_drop 16 bs o) (omega arith))
    ∙ sym (ap (λ (k : ℕ). take k bs) (more-keys n) ∙ take-add 16 (16 * n) bs)

-- ── one key ──
pub no_key : (n i : ℕ) (bs : Bytes) → n ≤ i → nth_key (keys_in n bs) i ≡ None
no_key zero i bs h = refl
no_key (suc n) zero bs h = absurd (omega arith)
no_key (suc n) (suc i) bs h = no_key n i (drop 16 bs) (omega arith)

pub a_key : (n i : ℕ) (bs : Bytes) → i < n → nth_key (keys_in n bs) i ≡ Some (of_key (key.decode (drop (16 * i) bs)))
a_key zero i bs h = absurd (omega arith)
a_key (suc n) zero bs h = refl
a_key (suc n) (suc i) bs h =
    a_key n i (drop 16 bs) (omega arith)
    ∙ ap (λ (x : Bytes). Some (of_key (key.decode x))) (drop-drop (16 * i) 16 bs ∙ ap (λ (k : ℕ). drop k bs) (sym (more-keys i)))

-- what was read of enough bytes
pub key-read : (bs : Bytes) (r : Option TcU32Key) → 16 ≤ length bs → r ≡ cond (ltb (length bs) 16) None (Some (of_key (key.decode bs))) → r ≡ Some (of_key (key.decode bs))
key-read bs r h e = e ∙ cond-false (ltb (length bs) 16) None (Some (of_key (key.decode bs))) (le-ltb (length bs) 16 h)
