-- The walk over attributes that are written finds them. Assumes nothing.
use Rattle.std.proofs.Common.{◌≡◌, ℕ, zero, suc, ◌+◌, ◌-◌, ◌≤◌, List, [], ◌∷◌, ◌++◌, length, take, drop, replicate, refl, ap, ◌∙◌, append_assoc, arith, length-append, le-ltb}
use lib.ListN.{length-replicate}
use Rattle.std.proofs.lemmas.List.{take_at, drop_at}
use Rattle.std.specs.List.{AllByRecursion}
use Rattle.model.specs.Numbers.{Bytes, number, bytes_of}
use Rattle.model.specs.Attributes.{rounded, Attribute, Writable, padded, encode, encode_all}
use Rattle.model.specs.Walk.{Walked, item, walk_in, found}
use Rattle.model.specs.Laws.{WalkOfEncode}
use Rattle.model.proofs.Numbers.{number_bytes}

-- one turn, where the length field is in order
pub turn : (n p a b c d : ℕ) (rest : Bytes) → 4 ≤ number (a ∷ b ∷ []) → number (a ∷ b ∷ []) ≤ 4 + length rest →
    walk_in (suc n) p (a ∷ b ∷ c ∷ d ∷ rest) ≡
    item p (number (c ∷ d ∷ [])) (take (number (a ∷ b ∷ []) - 4) rest) (walk_in n (p + rounded (number (a ∷ b ∷ []))) (drop (rounded (number (a ∷ b ∷ [])) - 4) rest))
turn n p a b c d rest low high = rw (le-ltb (4 + length rest) (number (a ∷ b ∷ [])) high, le-ltb (number (a ∷ b ∷ [])) 4 low, walk_in)

pub length-padded : (x : Bytes) → length (padded x) ≡ rounded (length x)
length-padded x = length-append x (replicate (rounded (length x) - length x) 0) ∙ ap (λ n. length x + n) (length-replicate (rounded (length x) - length x) 0) ∙ omega arith

item_same : (p : ℕ) {w w' : ℕ} {x x' : Bytes} {r r' : Walked} → w ≡ w' → x ≡ x' → r ≡ r' → item p w x r ≡ item p w' x' r'
item_same p e f g = λ i. item p (e i) (f i) (g i)

-- the walk over an attribute that is written, and more behind it
pub step_over : (n p : ℕ) (a : Attribute) (more : Bytes) → Writable a →
    walk_in (suc n) p (encode a ++ more) ≡ item p a.word a.payload (walk_in n (p + rounded (4 + length a.payload)) more)
step_over n p a more ok =
    let x = a.payload in
    let z : Bytes = replicate (rounded (length x) - length x) 0 in
    let short : length x ≤ 65531 = ok.short in
    let len : number (bytes_of 2 (4 + length x)) ≡ 4 + length x = number_bytes 2 (4 + length x) (omega arith) in
    let wide : length (padded x ++ more) ≡ rounded (length x) + length more = length-append (padded x) more ∙ ap (λ k. k + length more) (length-padded x) in
    let front : take (number (bytes_of 2 (4 + length x)) - 4) (padded x ++ more) ≡ x =
    ap (λ k. take (k - 4) (padded x ++ more)) len ∙ ap (take (4 + length x - 4)) (append_assoc x z more) ∙ take_at x (z ++ more) (4 + length x - 4) (omega arith) in
    let back : drop (rounded (number (bytes_of 2 (4 + length x))) - 4) (padded x ++ more) ≡ more =
    ap (λ k. drop (rounded k - 4) (padded x ++ more)) len ∙ drop_at (padded x) more (rounded (4 + length x) - 4) (length-padded x ∙ omega arith) in
    turn n p _ _ _ _ (padded x ++ more) (omega arith) (omega arith)
    ∙ item_same p (number_bytes 2 a.word ok.word16) front
    (ap (λ k. walk_in n (p + rounded k) (drop (rounded (number (bytes_of 2 (4 + length x))) - 4) (padded x ++ more))) len ∙ ap (walk_in n (p + rounded (4 + length x))) back)

pub length-encode : (a : Attribute) → length (encode a) ≡ rounded (4 + length a.payload)
length-encode a = let h : length (padded a.payload) ≡ rounded (length a.payload) = length-padded a.payload in omega arith

pub walk_in-encode : (n p : ℕ) (l : List Attribute) → AllByRecursion Writable l → length (encode_all l) ≤ n → walk_in n p (encode_all l) ≡ found p l
walk_in-encode zero p [] ok h = refl
walk_in-encode (suc n) p [] ok h = refl
walk_in-encode zero p (a ∷ l) ok h = absurd (omega arith)
walk_in-encode (suc n) p (a ∷ l) ok h =
    let size : length (encode a ++ encode_all l) ≡ length (encode a) + length (encode_all l) = length-append (encode a) (encode_all l) in
    let one : length (encode a) ≡ rounded (4 + length a.payload) = length-encode a in
    step_over n p a (encode_all l) ok.0
    ∙ ap (item p a.word a.payload) (walk_in-encode n (p + rounded (4 + length a.payload)) l ok.1 (omega arith))

pub walk_of_encode : WalkOfEncode
walk_of_encode p l ok = walk_in-encode (length (encode_all l)) p l ok (omega arith)
