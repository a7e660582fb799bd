-- The names of the code are those of the model. Assumes nothing.
use Rattle.std.specs.Prelude.{◌≡◌, ℤ}
use Rattle.model.specs.Outcomes.{outcome, outcome_number, mirror_action, mirror_action_number}
use Rattle.model.specs.Outcomes.{Outcome, unspec, ok, reclassify, shot, pipe, stolen, queued, repeat, redirect, trap, MirrorAction, egress_redir, egress_mirror, ingress_redir, ingress_mirror}
use Rattle.tc_records.specs.declared.outcome.TcActionType.{TcActionType}
use Rattle.tc_records.specs.declared.outcome.TcActionType.TheVariants.{Unspec, Ok, Reclassify, Shot, Pipe, Stolen, Queued, Repeat, Redirect, Trap}
use Rattle.tc_records.specs.declared.mirror_action.TcMirrorActionType.{TcMirrorActionType}
use Rattle.tc_records.specs.declared.mirror_action.TcMirrorActionType.TheVariants.{EgressRedir, EgressMirror, IngressRedir, IngressMirror}

abbrev pub as_outcome : TcActionType → Outcome
as_outcome Unspec = unspec
as_outcome Ok = ok
as_outcome Reclassify = reclassify
as_outcome Shot = shot
as_outcome Pipe = pipe
as_outcome Stolen = stolen
as_outcome Queued = queued
as_outcome Repeat = repeat
as_outcome Redirect = redirect
as_outcome Trap = trap
as_outcome (TcActionType.Other z) = Outcome.other z

abbrev pub of_outcome : Outcome → TcActionType
of_outcome unspec = Unspec
of_outcome ok = Ok
of_outcome reclassify = Reclassify
of_outcome shot = Shot
of_outcome pipe = Pipe
of_outcome stolen = Stolen
of_outcome queued = Queued
of_outcome repeat = Repeat
of_outcome redirect = Redirect
of_outcome trap = Trap
of_outcome (Outcome.other z) = TcActionType.Other z

abbrev pub as_mirror_action : TcMirrorActionType → MirrorAction
as_mirror_action EgressRedir = egress_redir
as_mirror_action EgressMirror = egress_mirror
as_mirror_action IngressRedir = ingress_redir
as_mirror_action IngressMirror = ingress_mirror
as_mirror_action (TcMirrorActionType.Other z) = MirrorAction.other z

abbrev pub of_mirror_action : MirrorAction → TcMirrorActionType
of_mirror_action egress_redir = EgressRedir
of_mirror_action egress_mirror = EgressMirror
of_mirror_action ingress_redir = IngressRedir
of_mirror_action ingress_mirror = IngressMirror
of_mirror_action (MirrorAction.other z) = TcMirrorActionType.Other z

-- the number of the name that a number has is that number
abbrev pub NumbersKept : Type 0
NumbersKept =
    ((z : ℤ) → outcome_number (as_outcome (of_outcome (outcome z))) ≡ z) × ((z : ℤ) → mirror_action_number (as_mirror_action (of_mirror_action (mirror_action z))) ≡ z)
