-- A record of the code, made from one of the model, is that record again. Assumes nothing.
use Rattle.std.proofs.Common.{◌≡◌, ℤ, refl}
use Rattle.model.specs.Outcomes.{Outcome, outcome, outcome_number, MirrorAction, mirror_action, mirror_action_number}
use Rattle.model.specs.Outcomes.{unspec, ok, reclassify, shot, pipe, stolen, queued, repeat, redirect, trap, egress_redir, egress_mirror, ingress_redir, ingress_mirror}
use Rattle.model.specs.Records.{Generic, TunnelKey, Mirror, Nat}
use Rattle.tc_records.specs.Names.{as_outcome, of_outcome, as_mirror_action, of_mirror_action}
use Rattle.tc_records.specs.Layouts.{as_generic, of_generic, as_tunnel_key, of_tunnel_key, as_mirror, of_mirror, as_nat, of_nat}
use Rattle.tc_records.specs.Again.{outcome_number_kept, action_number_kept, generic_again, tunnel_key_again, mirror_again, nat_again}

outcome_again : (o : Outcome) → as_outcome (of_outcome o) ≡ o
outcome_again unspec = refl
outcome_again ok = refl
outcome_again reclassify = refl
outcome_again shot = refl
outcome_again pipe = refl
outcome_again stolen = refl
outcome_again queued = refl
outcome_again repeat = refl
outcome_again redirect = refl
outcome_again trap = refl
outcome_again (Outcome.other z) = refl

action_again : (a : MirrorAction) → as_mirror_action (of_mirror_action a) ≡ a
action_again egress_redir = refl
action_again egress_mirror = refl
action_again ingress_redir = refl
action_again ingress_mirror = refl
action_again (MirrorAction.other z) = refl

pub outcome_kept : (z : ℤ) → outcome_number (as_outcome (of_outcome (outcome z))) ≡ z
outcome_kept = outcome_number_kept outcome_again

pub action_kept : (z : ℤ) → mirror_action_number (as_mirror_action (of_mirror_action (mirror_action z))) ≡ z
action_kept = action_number_kept action_again

pub same_generic : (g : Generic) → as_generic (of_generic g) ≡ g
same_generic = generic_again outcome_again

pub same_tunnel_key : (t : TunnelKey) → as_tunnel_key (of_tunnel_key t) ≡ t
same_tunnel_key = tunnel_key_again outcome_again

pub same_mirror : (m : Mirror) → as_mirror (of_mirror m) ≡ m
same_mirror = mirror_again outcome_again action_again

pub same_nat : (n : Nat) → as_nat (of_nat n) ≡ n
same_nat = nat_again outcome_again
