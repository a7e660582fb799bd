-- Names tell their numbers, and the head of a parameter record is the generic record. Assumes nothing.
use Rattle.std.proofs.Common.{◌≡◌, ℕ, zero, suc, List, [], ◌∷◌, map, length, get_or, ℤ, pos, negsuc, sym, refl, ap, ◌∙◌, ⊎_elim, arith}
use Rattle.std.specs.List.{range_with_len}
use Rattle.std.proofs.lemmas.Bool.{cases_lt}
use Rattle.std.proofs.lemmas.List.{get_or-map, get_or_past}
use Rattle.std.proofs.lemmas.List.FromFn.{get_or-map-range_with_len}
use Rattle.model.specs.Outcomes.{Outcome, unspec, ok, reclassify, shot, pipe, stolen, queued, repeat, redirect, trap, outcome, outcome_number}
use Rattle.model.specs.Outcomes.{MirrorAction, egress_redir, egress_mirror, ingress_redir, ingress_mirror, mirror_action, mirror_action_number, NamesTellNumbers, OutcomeIsToldByTheHead}

-- a name looked up in a list tells its number, where the i-th name of the list has the i-th number and the name for any other number tells that
told : {X : Type 0} (f : X → ℤ) (g : ℕ → ℤ) (l : List X) (n : ℕ) (d : X) → map f l ≡ map g (range_with_len 0 (length l)) → f d ≡ g n → f (get_or l n d) ≡ g n
told f g l n d e h = ⊎_elim
    (λ in_List. sym (get_or-map f l n d (f d) in_List) ∙ ap (λ x. get_or x n (f d)) e ∙ get_or-map-range_with_len g 0 (length l) n n (f d) in_List (omega arith))
    (λ past. ap f (get_or_past l n d past) ∙ h)
    (cases_lt n (length l))

of_outcomes : (z : ℤ) → outcome_number (outcome z) ≡ z
of_outcomes (negsuc n) = told outcome_number negsuc (unspec ∷ []) n (Outcome.other (negsuc n)) refl refl
of_outcomes (pos n) = told outcome_number pos (ok ∷ reclassify ∷ shot ∷ pipe ∷ stolen ∷ queued ∷ repeat ∷ redirect ∷ trap ∷ []) n (Outcome.other (pos n)) refl refl

of_mirror_actions : (z : ℤ) → mirror_action_number (mirror_action z) ≡ z
of_mirror_actions (negsuc n) = refl
of_mirror_actions (pos zero) = refl
of_mirror_actions (pos (suc n)) = told mirror_action_number (λ i. pos (suc i)) (egress_redir ∷ egress_mirror ∷ ingress_redir ∷ ingress_mirror ∷ []) n (MirrorAction.other (pos (suc n))) refl refl

pub names_tell_numbers : NamesTellNumbers
names_tell_numbers = record {
  of_outcomes = of_outcomes;
  of_mirror_actions = of_mirror_actions;
  by_outcome = (refl, (refl, (refl, (refl, (refl, (refl, (refl, (refl, (refl, (refl, tt))))))))));
  by_mirror_action = (refl, (refl, (refl, (refl, tt))));
}

pub outcome_is_told_by_the_head : OutcomeIsToldByTheHead
outcome_is_told_by_the_head = (
  record { head = λ bs h. refl; told = λ bs h. refl },
  record { head = λ bs h. refl; told = λ bs h. refl },
  record { head = λ bs h. refl; told = λ bs h. refl },
)
