-- Calls one after another, as turns. Assumes nothing.
use Rattle.std.proofs.Common.{◌≡◌, ℕ, List, [], ◌∷◌, ◌++◌, refl, ap, ◌∙◌, append_assoc}
use Rattle.model.specs.Page.{open_nest, close}
use Rattle.model.specs.Runs.{Turn, with_own_memory}
use Rattle.page.specs.declared.call.Call.{Call}
use Rattle.page.specs.Calls.{meant}
use Rattle.page_build.specs.Fillings.{nest_turns}
use Rattle.script.specs.Listings.{own_turns}

own_append : (xs ys : List Call) → own_turns (xs ++ ys) ≡ own_turns xs ++ own_turns ys
own_append [] ys = refl
own_append (x ∷ xs) ys = ap (λ (z : List Turn). with_own_memory (meant x) ∷ z) (own_append xs ys)

-- one more call
pub own_more : (xs ys : List Call) (c : Call) → ys ≡ xs ++ (c ∷ []) → own_turns ys ≡ own_turns xs ++ (with_own_memory (meant c) ∷ [])
own_more xs ys c e = ap own_turns e ∙ own_append xs (c ∷ [])

-- a nest that was opened, filled and closed
pub nest_listed : (t : ℕ) (a b c d ts : List Turn) → b ≡ a ++ (with_own_memory (open_nest t) ∷ []) → c ≡ b ++ ts → d ≡ c ++ (with_own_memory close ∷ []) → d ≡ a ++ nest_turns t ts
nest_listed t a b c d ts opened filled closed =
    let o : List Turn = with_own_memory (open_nest t) ∷ [] in
    let e : List Turn = with_own_memory close ∷ [] in
    closed
    ∙ (ap (λ (z : List Turn). z ++ e) (filled ∙ ap (λ (z : List Turn). z ++ ts) opened)
    ∙ (append_assoc (a ++ o) ts e ∙ append_assoc a o (ts ++ e)))
