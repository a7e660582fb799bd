-- The records of the code are those of the model, field by field. Assumes nothing.
use Rattle.model.specs.Outcomes.{outcome, outcome_number, mirror_action, mirror_action_number}
use Rattle.model.specs.Records.{Key, Generic, TunnelKey, Mirror, Times, Nat}
use Rattle.tc_records.specs.Names.{as_outcome, of_outcome, as_mirror_action, of_mirror_action}
use Rattle.tc_records.specs.declared.cls_u32.TcU32Key.{TcU32Key}
use Rattle.tc_records.specs.declared.action.TcActionGeneric.{TcActionGeneric}
use Rattle.tc_records.specs.declared.action.Tcf.{Tcf}
use Rattle.tc_records.specs.declared.tunnel_key.TcTunnelKey.{TcTunnelKey}
use Rattle.tc_records.specs.declared.mirror.TcMirror.{TcMirror}
use Rattle.tc_records.specs.declared.nat.TcNat.{TcNat}

abbrev pub as_key : TcU32Key → Key
as_key k = record { mask = k.mask; val = k.val; off = k.off; offmask = k.offmask }

abbrev pub of_key : Key → TcU32Key
of_key k = record { mask = k.mask; val = k.val; off = k.off; offmask = k.offmask }

abbrev pub as_generic : TcActionGeneric → Generic
as_generic r = record { index = r.index; capab = r.capab; action = outcome_number (as_outcome r.action); refcnt = r.refcnt; bindcnt = r.bindcnt }

abbrev pub of_generic : Generic → TcActionGeneric
of_generic r = record { index = r.index; capab = r.capab; action = of_outcome (outcome r.action); refcnt = r.refcnt; bindcnt = r.bindcnt }

abbrev pub as_times : Tcf → Times
as_times r = record { install = r.install; lastuse = r.lastuse; expires = r.expires; firstuse = r.firstuse }

abbrev pub of_times : Times → Tcf
of_times r = record { install = r.install; lastuse = r.lastuse; expires = r.expires; firstuse = r.firstuse }

abbrev pub as_tunnel_key : TcTunnelKey → TunnelKey
as_tunnel_key r = record { common = as_generic r.generic; t_action = r.t_action }

abbrev pub of_tunnel_key : TunnelKey → TcTunnelKey
of_tunnel_key r = record { generic = of_generic r.common; t_action = r.t_action }

abbrev pub as_mirror : TcMirror → Mirror
as_mirror r = record { common = as_generic r.generic; eaction = mirror_action_number (as_mirror_action r.eaction); ifindex = r.ifindex }

abbrev pub of_mirror : Mirror → TcMirror
of_mirror r = record { generic = of_generic r.common; eaction = of_mirror_action (mirror_action r.eaction); ifindex = r.ifindex }

abbrev pub as_nat : TcNat → Nat
as_nat r = record { common = as_generic r.generic; old_addr = r.old_addr; new_addr = r.new_addr; mask = r.mask; flags = r.flags }

abbrev pub of_nat : Nat → TcNat
of_nat r = record { generic = of_generic r.common; old_addr = r.old_addr; new_addr = r.new_addr; mask = r.mask; flags = r.flags }
