-- The six records keep their law. Assumes nothing.
use Rattle.std.proofs.Common.{◌≡◌, ℕ, ◌+◌, ◌^◌, ◌≤◌, ltb, [], ◌++◌, reverse, length, take, drop, sym, ap, ◌∙◌, ap₂, arith, length-drop, length-take, take-add}
use lib.ListN.{length-reverse}
use Rattle.std.proofs.lemmas.List.{reverse-reverse, drop-drop}
use Rattle.model.specs.Numbers.{Bytes, Octets, number, bytes_of, part, le, be, signed, le_bytes, be_bytes, signed_bytes}
use Rattle.model.specs.Records.{key, generic, tunnel_key, mirror, times, nat, RecordsLawful}
use Rattle.model.proofs.Numbers.{bytes_number}
use Rattle.model.proofs.Each.{octets_take, octets_drop}
use Rattle.model.proofs.Selectors.{le-lt, octets_reverseAux, signs}

module _ (bs : Bytes) (o : Octets bs) where
  part_length : (i n : ℕ) → i + n ≤ length bs → length (part i n bs) ≡ n
  part_length i n h = simp (length-take, length-drop) (omega arith)

  part_octets : (i n : ℕ) → Octets (part i n bs)
  part_octets i n = octets_take n (drop i bs) (octets_drop i bs o)

  pub le_back : (i n : ℕ) → i + n ≤ length bs → le_bytes n (le i n bs) ≡ part i n bs
  le_back i n h = ap (λ (k : ℕ). bytes_of k (number (part i n bs))) (sym (part_length i n h)) ∙ bytes_number (part i n bs) (part_octets i n)

  pub be_back : (i n : ℕ) → i + n ≤ length bs → be_bytes n (be i n bs) ≡ part i n bs
  be_back i n h =
      let x = part i n bs in
      let size : n ≡ length (reverse x) = sym (length-reverse x ∙ part_length i n h) in
      ap reverse (ap (λ (k : ℕ). bytes_of k (number (reverse x))) size ∙ bytes_number (reverse x) (octets_reverseAux x [] (part_octets i n) tt)) ∙ reverse-reverse x

  signed_back : (i : ℕ) → i + 4 ≤ length bs → signed_bytes 4 (signed i 4 bs) ≡ part i 4 bs
  signed_back i h = ap (bytes_of 4) (signs 4 (le i 4 bs) (ltb (le i 4 bs) (2 ^ 31)) (le-lt i 4 bs o)) ∙ le_back i 4 h

  -- two parts that follow one another
  pub joined : (i a b : ℕ) → part i a bs ++ part (i + a) b bs ≡ part i (a + b) bs
  joined i a b = ap (λ (r : Bytes). part i a bs ++ take b r) (sym (drop-drop a i bs)) ∙ sym (take-add a b (drop i bs))

  pub then : (i a b : ℕ) {x y : Bytes} → x ≡ part i a bs → y ≡ part (i + a) b bs → x ++ y ≡ part i (a + b) bs
  then i a b e f = ap₂ (λ (x y : Bytes). x ++ y) e f ∙ joined i a b

  generic_back : 20 ≤ length bs → generic.encode (generic.decode bs) ≡ take 20 bs
  generic_back h = then 0 4 16 (le_back 0 4 (omega arith)) (then 4 4 12 (le_back 4 4 (omega arith)) (then 8 4 8 (signed_back 8 (omega arith)) (then 12 4 4 (signed_back 12 (omega arith)) (signed_back 16 (omega arith)))))

  key_back : 16 ≤ length bs → key.encode (key.decode bs) ≡ take 16 bs
  key_back h = then 0 4 12 (be_back 0 4 (omega arith)) (then 4 4 8 (be_back 4 4 (omega arith)) (then 8 4 4 (signed_back 8 (omega arith)) (signed_back 12 (omega arith))))

  tunnel_back : 24 ≤ length bs → tunnel_key.encode (tunnel_key.decode bs) ≡ take 24 bs
  tunnel_back h = then 0 20 4 (generic_back (omega arith)) (signed_back 20 (omega arith))

  mirror_back : 28 ≤ length bs → mirror.encode (mirror.decode bs) ≡ take 28 bs
  mirror_back h = then 0 20 8 (generic_back (omega arith)) (then 20 4 4 (signed_back 20 (omega arith)) (le_back 24 4 (omega arith)))

  times_back : 32 ≤ length bs → times.encode (times.decode bs) ≡ take 32 bs
  times_back h = then 0 8 24 (le_back 0 8 (omega arith)) (then 8 8 16 (le_back 8 8 (omega arith)) (then 16 8 8 (le_back 16 8 (omega arith)) (le_back 24 8 (omega arith))))

  nat_back : 36 ≤ length bs → nat.encode (nat.decode bs) ≡ take 36 bs
  nat_back h = then 0 20 16 (generic_back (omega arith)) (then 20 4 12 (be_back 20 4 (omega arith)) (then 24 4 8 (be_back 24 4 (omega arith)) (then 28 4 4 (be_back 28 4 (omega arith)) (le_back 32 4 (omega arith)))))

pub records_lawful : RecordsLawful
records_lawful = (key_back, generic_back, tunnel_back, mirror_back, times_back, nat_back)
