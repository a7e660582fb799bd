-- How many bytes written attributes have. Assumes nothing.
use Rattle.std.proofs.Common.{◌≡◌, ℕ, ◌+◌, List, [], ◌∷◌, ◌++◌, length, sym, refl, ap, ◌∙◌, arith, length-append}
use lib.ListN.{length-replicate}
use Rattle.model.specs.Attributes.{rounded, Attribute, encode, encode_all}

pub length-encode : (a : Attribute) → length (encode a) ≡ 4 + rounded (length a.payload)
length-encode a = simp (length-append, length-replicate) (omega arith)

rounded-sum : (x y n : ℕ) → x ≡ 4 + rounded n → rounded y ≡ y → rounded (x + y) ≡ x + y
rounded-sum x y n e h = omega arith

-- a row of them is a multiple of 4, so it needs no padding
pub length-row : (l : List Attribute) → rounded (length (encode_all l)) ≡ length (encode_all l)
length-row [] = refl
length-row (a ∷ l) =
    let e : length (encode a ++ encode_all l) ≡ length (encode a) + length (encode_all l) = length-append (encode a) (encode_all l) in
    ap rounded e ∙ rounded-sum (length (encode a)) (length (encode_all l)) (length a.payload) (length-encode a) (length-row l) ∙ sym e
