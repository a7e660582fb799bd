-- Outcomes and mirror actions by name, and the outcome that any parameter record tells. Assumes nothing.
use Rattle.std.specs.Prelude.{◌≡◌, ◌≤◌, List, [], ◌∷◌, length, ℤ, pos, negsuc, slice_index_or}
use Rattle.std.specs.List.{AllByRecursion}
use Rattle.model.specs.Numbers.{Bytes, signed}
use Rattle.model.specs.Records.{Generic, TunnelKey, Mirror, Nat, Layout, generic, tunnel_key, mirror, nat}

-- what becomes of a packet after an action: named from -1 to 8 (TC_ACT_* of pkt_cls.h); any other is carried as its number
pub data Outcome : Type 0 where
  unspec ok reclassify shot pipe stolen queued repeat redirect trap : Outcome
  other : ℤ → Outcome

abbrev pub outcome : ℤ → Outcome
outcome (negsuc n) = slice_index_or (unspec ∷ []) n (other (negsuc n))
outcome (pos n) = slice_index_or (ok ∷ reclassify ∷ shot ∷ pipe ∷ stolen ∷ queued ∷ repeat ∷ redirect ∷ trap ∷ []) n (other (pos n))

abbrev pub outcome_number : Outcome → ℤ
outcome_number unspec = negsuc 0
outcome_number ok = pos 0
outcome_number reclassify = pos 1
outcome_number shot = pos 2
outcome_number pipe = pos 3
outcome_number stolen = pos 4
outcome_number queued = pos 5
outcome_number repeat = pos 6
outcome_number redirect = pos 7
outcome_number trap = pos 8
outcome_number (other z) = z

-- what a mirror action does: named from 1 to 4 (TCA_* of tc_mirred.h)
pub data MirrorAction : Type 0 where
  egress_redir egress_mirror ingress_redir ingress_mirror : MirrorAction
  other : ℤ → MirrorAction

abbrev pub mirror_action : ℤ → MirrorAction
mirror_action (negsuc n) = MirrorAction.other (negsuc n)
mirror_action (pos n) = slice_index_or (MirrorAction.other (pos n) ∷ egress_redir ∷ egress_mirror ∷ ingress_redir ∷ ingress_mirror ∷ []) n (MirrorAction.other (pos n))

abbrev pub mirror_action_number : MirrorAction → ℤ
mirror_action_number egress_redir = pos 1
mirror_action_number egress_mirror = pos 2
mirror_action_number ingress_redir = pos 3
mirror_action_number ingress_mirror = pos 4
mirror_action_number (MirrorAction.other z) = z

abbrev pub named_outcomes : List Outcome
named_outcomes = unspec ∷ ok ∷ reclassify ∷ shot ∷ pipe ∷ stolen ∷ queued ∷ repeat ∷ redirect ∷ trap ∷ []

abbrev pub named_mirror_actions : List MirrorAction
named_mirror_actions = egress_redir ∷ egress_mirror ∷ ingress_redir ∷ ingress_mirror ∷ []

-- number to name to number is the identity, and each name is that of its number
pub record NamesTellNumbers : Type 0 where
  pub of_outcomes : (z : ℤ) → outcome_number (outcome z) ≡ z
  pub of_mirror_actions : (z : ℤ) → mirror_action_number (mirror_action z) ≡ z
  pub by_outcome : AllByRecursion (λ o. outcome (outcome_number o) ≡ o) named_outcomes
  pub by_mirror_action : AllByRecursion (λ a. mirror_action (mirror_action_number a) ≡ a) named_mirror_actions

-- A parameter record also answers its common head, the generic record in its first 20 bytes; its outcome is told through that.
pub record Parameters (R : Type 0) : Type 0 where
  pub layout : Layout R
  pub common_head : R → Generic

abbrev pub outcome_of : {R : Type 0} → Parameters R → R → Outcome
outcome_of p r = outcome (p.common_head r).action

-- what is read from a payload has the payload's generic record as its head, and tells the outcome in bytes 8 to 11
pub record TellsOutcome {R : Type 0} (p : Parameters R) : Type 0 where
  pub head : (bs : Bytes) → p.layout.size ≤ length bs → p.common_head (p.layout.decode bs) ≡ generic.decode bs
  pub told : (bs : Bytes) → p.layout.size ≤ length bs → outcome_of p (p.layout.decode bs) ≡ outcome (signed 8 4 bs)

abbrev pub tunnel_key_parameters : Parameters TunnelKey
tunnel_key_parameters = record { layout = tunnel_key; common_head = λ t. t.common }

abbrev pub mirror_parameters : Parameters Mirror
mirror_parameters = record { layout = mirror; common_head = λ m. m.common }

abbrev pub nat_parameters : Parameters Nat
nat_parameters = record { layout = nat; common_head = λ n. n.common }

abbrev pub OutcomeIsToldByTheHead : Type 0
OutcomeIsToldByTheHead = TellsOutcome tunnel_key_parameters × TellsOutcome mirror_parameters × TellsOutcome nat_parameters
