-- Where a text's first word ends. Assumes nothing.
use Rattle.std.proofs.Common.{◌≡◌, ℕ, ◌≤◌, cond, List, length, take, Some, None, Option, sym, ap, arith, nat_lt}
use Rattle.std.specs.List.{position_or_len}
use Rattle.std.proofs.lemmas.Bool.Decides.{nat_tests}
use Rattle.std.proofs.lemmas.Option.{cond_some}
use Rattle.std.proofs.lemmas.List.{take_all}
use Rattle.hexadecimal.specs.PlainText.{blank}
use Rattle.script.specs.Words.{first_word}

-- the place of a text's first blank
abbrev pub first_blank : List ℕ → Option ℕ
first_blank xs = cond (nat_lt (position_or_len blank xs) (length xs)) (Some (position_or_len blank xs)) None

pub blank_at : (xs : List ℕ) (i : ℕ) → first_blank xs ≡ Some i → take i xs ≡ first_word xs
blank_at xs i h = sym (ap (λ n. take n xs) (cond_some _ _ _ h).1)

none_is : (p n : ℕ) → cond (nat_lt p n) (Some p) None ≡ None → n ≤ p
none_is p n h = grind (arith, nat_tests)

pub blank_none : (xs : List ℕ) → first_blank xs ≡ None → xs ≡ first_word xs
blank_none xs h = sym (take_all (position_or_len blank xs) xs (none_is (position_or_len blank xs) (length xs) h))
