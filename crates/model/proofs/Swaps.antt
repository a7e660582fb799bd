-- Every order of a list is reached by swaps of neighbours. Assumes nothing.
use Rattle.std.proofs.Common.{◌≡◌, ℕ, suc, List, [], ◌∷◌, ◌++◌, map, refl, ap, ◌∙◌, ap₂}
use mathlib.Core.List.{Permᴰ}
use Rattle.model.specs.Reordering.{swap, reorder, EveryOrderIsReached}

module _ {A : Type 0} where
  swap-behind : (i : ℕ) (a : A) (l : List A) → swap (suc i) (a ∷ l) ≡ a ∷ swap i l
  swap-behind i a [] = refl
  swap-behind i a (b ∷ l) = refl

  reorder-behind : (π : List ℕ) (a : A) (l : List A) → reorder (map suc π) (a ∷ l) ≡ a ∷ reorder π l
  reorder-behind [] a l = refl
  reorder-behind (i ∷ π) a l = ap (reorder (map suc π)) (swap-behind i a l) ∙ reorder-behind π a (swap i l)

  reorder_both : (π ρ : List ℕ) (l : List A) → reorder (π ++ ρ) l ≡ reorder ρ (reorder π l)
  reorder_both [] ρ l = refl
  reorder_both (i ∷ π) ρ l = reorder_both π ρ (swap i l)

  reached : {l l' : List A} → Permᴰ l l' → (π : List ℕ) × (reorder π l ≡ l')
  reached Permᴰ.nil = ([], refl)
  reached (Permᴰ.cons {a = a} {l₁ = l} e d) = let r = reached d in (map suc r.0, reorder-behind r.0 a l ∙ ap₂ {C = List A} (λ x y. x ∷ y) e r.1)
  reached (Permᴰ.swap {l = l} e f) = (0 ∷ [], λ i. f i ∷ e i ∷ l)
  reached (Permᴰ.trans {l₁ = l} d₁ d₂) = let r = reached d₁ in let s = reached d₂ in (r.0 ++ s.0, reorder_both r.0 s.0 l ∙ ap (reorder s.0) r.1 ∙ s.1)

pub every_order_is_reached : EveryOrderIsReached
every_order_is_reached = record { of_page_items = λ l l'. reached; of_card_actions = λ l l'. reached; of_action_items = λ l l'. reached; of_attributes = λ l l'. reached }
