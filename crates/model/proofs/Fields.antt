-- What stands at a place in bytes means the same where it is cut out. Assumes nothing.
use Rattle.std.proofs.Common.{◌≡◌, ℕ, ap, drop, reverse, arith}
use Rattle.std.proofs.lemmas.List.{take-take}
use Rattle.model.specs.Numbers.{Bytes, number, part, le, be, as_signed, signed}

cut : (n i : ℕ) (bs : Bytes) → part 0 n (part i n bs) ≡ part i n bs
cut n i bs = take-take n n (drop i bs) (omega arith)

pub le_cut : (n i : ℕ) (bs : Bytes) → le 0 n (part i n bs) ≡ le i n bs
le_cut n i bs = ap number (cut n i bs)

pub be_cut : (n i : ℕ) (bs : Bytes) → be 0 n (part i n bs) ≡ be i n bs
be_cut n i bs = ap (λ (x : Bytes). number (reverse x)) (cut n i bs)

pub signed_cut : (n i : ℕ) (bs : Bytes) → signed 0 n (part i n bs) ≡ signed i n bs
signed_cut n i bs = ap (as_signed n) (le_cut n i bs)
