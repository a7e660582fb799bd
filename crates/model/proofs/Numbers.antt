-- Numbers to bytes and back. Assumes nothing.
use Rattle.std.proofs.Common.{◌≡◌, ℕ, zero, suc, ◌+◌, ◌*◌, ◌/◌, ◌%◌, ◌^◌, ◌<◌, [], ◌∷◌, length, refl, ap, subst, arith}
use Rattle.std.proofs.lemmas.Nat.{div_below}
use Rattle.model.specs.Numbers.{Bytes, Octets, number, bytes_of}

pub number_bytes : (n v : ℕ) → v < 256 ^ n → number (bytes_of n v) ≡ v
number_bytes zero v h = omega arith
number_bytes (suc n) v h =
    let i : number (bytes_of n (v / 256)) ≡ v / 256 = number_bytes n (v / 256) (div_below v 256 (256 ^ n) (omega arith) (omega arith)) in
    omega arith

pub bytes_number : (bs : Bytes) → Octets bs → bytes_of (length bs) (number bs) ≡ bs
bytes_number [] o = refl
bytes_number (b ∷ bs) o =
    let small : b < 256 = o.0 in
    let low : (b + 256 * number bs) % 256 ≡ b = omega arith in
    let high : (b + 256 * number bs) / 256 ≡ number bs = omega arith in
    rw (low, high) (ap {B = Bytes} (λ r. b ∷ r) (bytes_number bs o.1))

pub length_bytes : (n v : ℕ) → length (bytes_of n v) ≡ n
length_bytes zero v = refl
length_bytes (suc n) v = ap suc (length_bytes n (v / 256))

pub number_lt : (bs : Bytes) → Octets bs → number bs < 256 ^ length bs
number_lt [] o = omega arith
number_lt (b ∷ bs) o = let small : b < 256 = o.0 in let i : number bs < 256 ^ length bs = number_lt bs o.1 in let g : b + 256 * number bs < 256 ^ suc (length bs) = omega arith in g

pub u32-lt : (bs : Bytes) → Octets bs → length bs ≡ 4 → number bs < 4294967296
u32-lt bs o e = let h = number_lt bs o in subst (λ n. number bs < 256 ^ n) e h
