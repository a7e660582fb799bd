-- Where the blanks before and behind a text end. Assumes nothing.
use Rattle.std.proofs.Common.{◌≡◌, ℕ, ◌+◌, ◌-◌, ◌≤◌, Bool, true, false, not, cond, List, [], ◌∷◌, ◌++◌, reverse, length, take, drop, Some, None, Option, sym, ap, refl, ◌∙◌, arith, nat_lt}
use mathlib.Core.List.{reverse-append, reverse-reverse}
use Rattle.std.specs.List.{position_or_len}
use Rattle.std.proofs.lemmas.Grind.{common_steps}
use Rattle.std.proofs.lemmas.List.{take-append-drop, length-reverse, length-drop}
use Rattle.std.proofs.Math.ListN.{drop_of_length-le}
use Rattle.std.proofs.Math.Seq.{take-append_seam}
use Rattle.std.proofs.lemmas.Bool.Decides.{nat_tests}
use Rattle.std.proofs.lemmas.Option.{cond_some}
use Rattle.hexadecimal.specs.PlainText.{blank, from_start}

-- how many blanks a text begins with
abbrev pub front_len : List ℕ → ℕ
front_len xs = position_or_len (λ c. not (blank c)) xs

-- the place of the first character that is no blank
abbrev pub first : List ℕ → Option ℕ
first xs = cond (nat_lt (front_len xs) (length xs)) (Some (front_len xs)) None

one_more : (x : ℕ) (xs : List ℕ) (n : ℕ) → drop n xs ≡ drop (1 + n) (x ∷ xs)
one_more x xs n = grind (arith, common_steps)

front : (xs : List ℕ) → from_start xs ≡ drop (front_len xs) xs
front [] = refl
front (x ∷ xs) =
    let step : (b : Bool) → cond b (from_start xs) (x ∷ xs) ≡ drop (cond (not (not b)) (1 + front_len xs) 0) (x ∷ xs) =
    λ b. elim b as (λ b. cond b (from_start xs) (x ∷ xs) ≡ drop (cond (not (not b)) (1 + front_len xs) 0) (x ∷ xs)) [ true ↦ front xs ∙ one_more x xs (front_len xs) | false ↦ refl ] in
    step (blank x)

pub front_at : (xs : List ℕ) (i : ℕ) → first xs ≡ Some i → from_start xs ≡ drop i xs
front_at xs i h = front xs ∙ ap (λ n. drop n xs) (cond_some _ _ _ h).1

none_is : (p n : ℕ) → cond (nat_lt p n) (Some p) None ≡ None → n ≤ p
none_is p n h = grind (arith, nat_tests)

pub front_none : (xs : List ℕ) → first xs ≡ None → from_start xs ≡ []
front_none xs h = front xs ∙ drop_of_length-le xs (none_is (front_len xs) (length xs) h)

-- the others backwards, from a place on: all but so many
turned : (xs : List ℕ) (i : ℕ) → take (length xs - i) xs ≡ reverse (drop i (reverse xs))
turned xs i =
    let ys = reverse xs in
    let back = reverse (drop i ys) in
    let whole : xs ≡ back ++ reverse (take i ys) =
    sym (reverse-reverse xs) ∙ (sym (ap reverse (take-append-drop i ys)) ∙ reverse-append (take i ys) (drop i ys)) in
    let many : length xs - i ≡ length back = grind (arith, common_steps, length-reverse, length-drop) in
    ap (λ n. take n xs) many ∙ (ap (take (length back)) whole ∙ take-append_seam back (reverse (take i ys)))

pub back_at : (xs : List ℕ) (i : ℕ) → first (reverse xs) ≡ Some i → take (length xs - i) xs ≡ reverse (from_start (reverse xs))
back_at xs i h = turned xs i ∙ sym (ap reverse (front_at (reverse xs) i h))
