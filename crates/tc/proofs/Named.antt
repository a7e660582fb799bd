-- What the options of the family that a kind names tell is what the options of that kind tell, and so the shipped book's answer. Assumes nothing.
use Rattle.std.proofs.Common.{◌≡◌, ℕ, Bool, true, false, cond, get_or, codes, Ok, Result, sym, refl, ap, ◌∙◌, w8, Fits, Bor}
use Rattle.std.specs.Str.{bytes_eq}
use Rattle.model.specs.Numbers.{Bytes}
use Rattle.model.specs.Book.{Answer, accept}
use Rattle.model.specs.Shipped.{shipped}
use Rattle.netlink.specs.declared.buffer.NlaBuffer.{NlaBuffer}
use Rattle.payload.specs.Errors.{Lack}
use Rattle.tc_options.specs.Carried.{carried}
use Rattle.tc_options.specs.Mirrors.{mirror_option, mirror_word, mirror_payload}
use Rattle.tc_options.specs.Nats.{nat_option, nat_word, nat_payload}
use Rattle.tc_options.specs.TunnelKeys.{tunnel_key_option, tunnel_key_word, tunnel_key_payload}
use Rattle.tc_options.specs.Options.{option_word, option_payload}
use Rattle.tc_options.specs.declared.option.TcActionOption.TheVariants as option
use Rattle.tc_options.specs.declared.parms.TcActionParmsOption.{TcActionParmsOption}
use Rattle.tc_records.specs.declared.mirror.TcMirror.{TcMirror}
use Rattle.tc_records.specs.declared.nat.TcNat.{TcNat}
use Rattle.tc_options.specs.declared.tunnel_key.TcActionTunnelKeyOption.{TcActionTunnelKeyOption}
use Rattle.tc.specs.declared.shipped.Family.{Family}
use Rattle.tc.specs.declared.shipped.Family.TheVariants.{Mirror, Nat, TunnelKey, Other}
use Rattle.tc.specs.Families.{family_of, told}
use Rattle.tc.proofs.Families.{carried-told, option-answer}

module _ (k : Bytes) (w : ℕ) (x : Bor Bytes) where
  abbrev asked : NlaBuffer
  asked = record { place = 0; word = w; value = x }

  -- what an option tells that is read as one of a family
  abbrev told_as : Family → Answer
  told_as Mirror = told mirror_word mirror_payload (mirror_option asked)
  told_as Nat = told nat_word nat_payload (nat_option asked)
  told_as TunnelKey = told tunnel_key_word tunnel_key_payload (tunnel_key_option asked)
  told_as Other = accept w x.now

  by_name : (a b c : Bool) →
      told_as (cond a Mirror (cond b Nat (cond c TunnelKey Other)))
      ≡ told option_word option_payload (cond a (carried option.Mirror (mirror_option asked)) (cond b (carried option.Nat (nat_option asked)) (cond c (carried option.TunnelKey (tunnel_key_option asked)) (Ok (option.Other (record { word = w; value = x }))))))
  by_name true b c = sym (carried-told option.Mirror option_word option_payload (mirror_option asked))
  by_name false true c = sym (carried-told option.Nat option_word option_payload (nat_option asked))
  by_name false false true = sym (carried-told option.TunnelKey option_word option_payload (tunnel_key_option asked))
  by_name false false false = refl

  module _ (bytes : (i : ℕ) → Fits w8 (get_or x.now i 0)) where
    family-told : (f : Family) → f ≡ family_of k → told_as f ≡ shipped k w x.now
    family-told f e = ap told_as e ∙ by_name (bytes_eq k (codes "mirred")) (bytes_eq k (codes "nat")) (bytes_eq k (codes "tunnel_key")) ∙ option-answer k w x bytes refl

    pub mirror-answer : {r : Result (TcActionParmsOption TcMirror) Lack} → Mirror ≡ family_of k → r ≡ mirror_option asked → told mirror_word mirror_payload r ≡ shipped k w x.now
    mirror-answer e q = ap (told mirror_word mirror_payload) q ∙ family-told Mirror e

    pub nat-answer : {r : Result (TcActionParmsOption TcNat) Lack} → Nat ≡ family_of k → r ≡ nat_option asked → told nat_word nat_payload r ≡ shipped k w x.now
    nat-answer e q = ap (told nat_word nat_payload) q ∙ family-told Nat e

    pub tunnel_key-answer : {r : Result TcActionTunnelKeyOption Lack} → TunnelKey ≡ family_of k → r ≡ tunnel_key_option asked → told tunnel_key_word tunnel_key_payload r ≡ shipped k w x.now
    tunnel_key-answer e q = ap (told tunnel_key_word tunnel_key_payload) q ∙ family-told TunnelKey e
