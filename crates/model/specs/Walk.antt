-- The walk over a row of attributes. Assumes nothing.
use Rattle.std.specs.Prelude.{ℕ, zero, suc, ◌+◌, ◌-◌, true, false, List, [], ◌∷◌, length, take, drop, nat_lt}
use Rattle.model.specs.Numbers.{Bytes, number}
use Rattle.model.specs.Attributes.{Attribute, rounded}

-- What a walk finds, in order: it ends, or a fault of this cause at this place, or an attribute with its head's place, and then the rest.
pub data Walked : Type 0 where
  done : Walked
  bad : (cause place : ℕ) → Walked
  item : (place word : ℕ) → Bytes → Walked → Walked

-- The walk over bs, whose first byte has the place p. Each turn takes 4 bytes or more, so as many turns as there are bytes suffice.
abbrev pub walk_in : ℕ → ℕ → Bytes → Walked
walk_in zero p bs = done
walk_in (suc n) p [] = done
walk_in (suc n) p (a ∷ []) = bad 6 p
walk_in (suc n) p (a ∷ b ∷ []) = bad 6 p
walk_in (suc n) p (a ∷ b ∷ c ∷ []) = bad 6 p
walk_in (suc n) p (a ∷ b ∷ c ∷ d ∷ rest) =
    let len : ℕ = number (a ∷ b ∷ []) in
    elim (nat_lt (4 + length rest) len) [
      | true ↦ bad 7 p
      | false ↦ elim (nat_lt len 4) [
        | true ↦ bad 8 p
        | false ↦ item p (number (c ∷ d ∷ [])) (take (len - 4) rest) (walk_in n (p + rounded len) (drop (rounded len - 4) rest))
      ]
    ]

abbrev pub walk : ℕ → Bytes → Walked
walk p bs = walk_in (length bs) p bs

-- the walk that finds these attributes and ends, from the place p
abbrev pub found : ℕ → List Attribute → Walked
found p [] = done
found p (a ∷ more) = item p a.word a.payload (found (p + rounded (4 + length a.payload)) more)
