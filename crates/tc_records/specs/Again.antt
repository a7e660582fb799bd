-- A record of the code, made from one of the model, is that record again, where names are names again: the records' laws rest on it. Assumes nothing.
use Rattle.std.specs.Prelude.{◌≡◌, ℤ}
use Rattle.std.proofs.Common.{ap, ◌∙◌}
use Rattle.model.specs.Outcomes.{Outcome, outcome, outcome_number, MirrorAction, mirror_action, mirror_action_number}
use Rattle.model.specs.Records.{Generic, TunnelKey, Mirror, Nat}
use Rattle.model.proofs.Names.{names_tell_numbers}
use Rattle.tc_records.specs.Names.{as_outcome, of_outcome, as_mirror_action, of_mirror_action}
use Rattle.tc_records.specs.Layouts.{as_generic, of_generic, as_tunnel_key, of_tunnel_key, as_mirror, of_mirror, as_nat, of_nat}

-- the code's name for a name is that name
abbrev pub OutcomesAgain : Type 0
OutcomesAgain = (o : Outcome) → as_outcome (of_outcome o) ≡ o

abbrev pub ActionsAgain : Type 0
ActionsAgain = (a : MirrorAction) → as_mirror_action (of_mirror_action a) ≡ a

pub outcome_number_kept : OutcomesAgain → (z : ℤ) → outcome_number (as_outcome (of_outcome (outcome z))) ≡ z
outcome_number_kept again z = ap outcome_number (again (outcome z)) ∙ names_tell_numbers.of_outcomes z

pub action_number_kept : ActionsAgain → (z : ℤ) → mirror_action_number (as_mirror_action (of_mirror_action (mirror_action z))) ≡ z
action_number_kept again z = ap mirror_action_number (again (mirror_action z)) ∙ names_tell_numbers.of_mirror_actions z

pub generic_again : OutcomesAgain → (g : Generic) → as_generic (of_generic g) ≡ g
generic_again again g = λ i. record { index = g.index; capab = g.capab; action = outcome_number_kept again g.action i; refcnt = g.refcnt; bindcnt = g.bindcnt }

pub tunnel_key_again : OutcomesAgain → (t : TunnelKey) → as_tunnel_key (of_tunnel_key t) ≡ t
tunnel_key_again again t = λ i. record { common = generic_again again t.common i; t_action = t.t_action }

pub mirror_again : OutcomesAgain → ActionsAgain → (m : Mirror) → as_mirror (of_mirror m) ≡ m
mirror_again again again' m = λ i. record { common = generic_again again m.common i; eaction = action_number_kept again' m.eaction i; ifindex = m.ifindex }

pub nat_again : OutcomesAgain → (n : Nat) → as_nat (of_nat n) ≡ n
nat_again again n = λ i. record { common = generic_again again n.common i; old_addr = n.old_addr; new_addr = n.new_addr; mask = n.mask; flags = n.flags }
