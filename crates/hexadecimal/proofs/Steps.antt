-- Steps of the loops, and the law between the two directions.
use Rattle.std.proofs.Common.{◌≡◌, ℕ, ◌+◌, ◌*◌, ◌/◌, ◌%◌, ◌<◌, List, [], ◌∷◌, ◌++◌, length, get_or, Some, None, Option, sym, refl, ap, ◌∙◌, append_assoc, arith}
use Rattle.std.proofs.lemmas.Bool.Decides.{nat_tests}
use Rattle.hexadecimal.specs.Hex.{digit, value_of, joined, byte_of, onto, decode, encode, behind}
use Rattle.hexadecimal.specs.Laws.{Octets}

behind_more : (front : List ℕ) (b : ℕ) (o : Option (List ℕ)) → behind (front ++ (b ∷ [])) o ≡ behind front (onto (Some b) o)
behind_more front b None = refl
behind_more front b (Some bs) = ap Some (append_assoc front (b ∷ []) bs)

digit_value : (n : ℕ) → n < 16 → value_of (digit n) ≡ Some n
digit_value n h = grind (arith, nat_tests)

byte_again : (b : ℕ) → b < 256 → byte_of (digit (b / 16)) (digit (b % 16)) ≡ Some b
byte_again b h =
    let e : joined (value_of (digit (b / 16))) (value_of (digit (b % 16))) ≡ joined (Some (b / 16)) (Some (b % 16)) =
    cc (digit_value (b / 16) (omega arith), digit_value (b % 16) (omega arith)) in
    let s : 16 * (b / 16) + b % 16 ≡ b = omega arith in
    e ∙ ap Some s

pub decode-encode : (bs : List ℕ) → Octets bs → decode (encode bs) ≡ Some bs
decode-encode [] o = refl
decode-encode (b ∷ bs) o =
    ap (λ (x : Option ℕ). onto x (decode (encode bs))) (byte_again b o.0)
    ∙ ap (λ (x : Option (List ℕ)). onto (Some b) x) (decode-encode bs o.1)

two_in_front : (x rest : List ℕ) → length x ≡ 2 → decode (x ++ rest) ≡ onto (byte_of (get_or x 0 0) (get_or x 1 0)) (decode rest)
two_in_front [] rest h = absurd (omega (arith, h))
two_in_front (a ∷ []) rest h = absurd (omega (arith, h))
two_in_front (a ∷ (b ∷ [])) rest h = refl
two_in_front (a ∷ (b ∷ (c ∷ xs))) rest h = absurd (omega (arith, h))

pub decode_step : (s x t held more : List ℕ) (b : ℕ) (whole : Option (List ℕ)) → length x ≡ 2 → s ≡ x ++ t →
    Some b ≡ byte_of (get_or x 0 0) (get_or x 1 0) → more ≡ held ++ (b ∷ []) → behind held (decode s) ≡ whole →
    behind more (decode t) ≡ whole
decode_step s x t held more b whole h p e m inv =
    ap (λ (y : List ℕ). behind y (decode t)) m
    ∙ (behind_more held b (decode t)
    ∙ (ap (λ (y : Option ℕ). behind held (onto y (decode t))) e
    ∙ (sym (ap (behind held) (ap decode p ∙ two_in_front x t h)) ∙ inv)))
