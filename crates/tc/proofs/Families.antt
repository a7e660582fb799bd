-- What each kind's options tell is the shipped book's answer. Assumes nothing.
use Rattle.std.proofs.Common.{◌≡◌, ℕ, zero, suc, Bool, true, false, cond, [], get_or, codes, Ok, Err, Result, sym, refl, ap, ◌∙◌, arith, w8, Fits, Bor}
use Rattle.std.specs.Str.{bytes_eq}
use Rattle.std.proofs.lemmas.Bool.{ne_eqb}
use Rattle.model.specs.Numbers.{Bytes, Octets, le, be}
use Rattle.model.specs.Attributes.{type_of}
use Rattle.model.specs.Records.{times, mirror, nat, tunnel_key}
use Rattle.model.specs.Shipped.{default, judge, truth, mirred_forms, nat_forms, tunnel_key_forms, shipped}
use Rattle.model.proofs.RecordLaws.{records_lawful}
use Rattle.netlink.specs.declared.buffer.NlaBuffer.{NlaBuffer}
use Rattle.payload.specs.Errors.{Lack}
use Rattle.payload.specs.Payloads.{address, address_part}
use Rattle.tc_records.specs.Layouts.{as_times, of_times, as_mirror, of_mirror, as_nat, of_nat, as_tunnel_key, of_tunnel_key}
use Rattle.tc_records.proofs.Same.{same_mirror, same_nat, same_tunnel_key}
use Rattle.tc_options.specs.Mirrors.{mirror_by, mirror_option, mirror_word, mirror_payload}
use Rattle.tc_options.specs.Nats.{nat_by, nat_option, nat_word, nat_payload}
use Rattle.tc_options.specs.TunnelKeys.{tunnel_key_by, tunnel_key_option, tunnel_key_word, tunnel_key_payload}
use Rattle.tc_options.specs.declared.tunnel_key.TcActionTunnelKeyOption.TheVariants.{EncIpv6Src, EncIpv6Dst}
use Rattle.tc_options.specs.Carried.{carried}
use Rattle.tc_options.specs.Options.{option_of, option_word, option_payload}
use Rattle.tc_options.specs.declared.option.TcActionOption.{TcActionOption}
use Rattle.tc_options.specs.declared.option.TcActionOption.TheVariants.{Mirror, Nat, TunnelKey, Other}
use Rattle.tc.specs.Families.{told}
use Rattle.tc.proofs.Told.{octets, record_told, exact-told, be_again, byte_again, flag_again}

-- an option in a case of a larger type tells what it told
pub carried-told : {O Q : Type 0} (f : O → Q) (word : Q → ℕ) (payload : Q → Bytes) (r : Result O Lack) → told word payload (carried f r) ≡ told (λ o. word (f o)) (λ o. payload (f o)) r
carried-told f word payload (Ok o) = refl
carried-told f word payload (Err e) = refl

module _ (w : ℕ) (x : Bor Bytes) (o : Octets x.now) where
  abbrev option : NlaBuffer
  option = record { place = 0; word = w; value = x }

  mirror-at : (t : ℕ) → type_of w ≡ t → told mirror_word mirror_payload (mirror_by t option) ≡ judge (get_or mirred_forms t default) w x.now
  mirror-at zero e = refl
  mirror-at (suc zero) e = record_told times of_times as_times _ mirror_word mirror_payload (type_of w) x.now (sym e) refl refl records_lawful.4 o
  mirror-at (suc (suc zero)) e = record_told mirror of_mirror as_mirror _ mirror_word mirror_payload (type_of w) x.now (sym e) refl (same_mirror (mirror.decode x.now)) records_lawful.3 o
  mirror-at (suc (suc (suc t))) e = rw (ne_eqb (suc (suc (suc t))) 1 (λ q. omega arith), ne_eqb (suc (suc (suc t))) 2 (λ q. omega arith))

  pub mirror-told : told mirror_word mirror_payload (mirror_option option) ≡ judge (get_or mirred_forms (type_of w) default) w x.now
  mirror-told = mirror-at (type_of w) refl

  nat-at : (t : ℕ) → type_of w ≡ t → told nat_word nat_payload (nat_by t option) ≡ judge (get_or nat_forms t default) w x.now
  nat-at zero e = refl
  nat-at (suc zero) e = record_told nat of_nat as_nat _ nat_word nat_payload (type_of w) x.now (sym e) refl (same_nat (nat.decode x.now)) records_lawful.5 o
  nat-at (suc (suc zero)) e = record_told times of_times as_times _ nat_word nat_payload (type_of w) x.now (sym e) refl refl records_lawful.4 o
  nat-at (suc (suc (suc t))) e = rw (ne_eqb (suc (suc (suc t))) 1 (λ q. omega arith), ne_eqb (suc (suc (suc t))) 2 (λ q. omega arith))

  pub nat-told : told nat_word nat_payload (nat_option option) ≡ judge (get_or nat_forms (type_of w) default) w x.now
  nat-told = nat-at (type_of w) refl

  tunnel_key-at : (t : ℕ) → type_of w ≡ t → told tunnel_key_word tunnel_key_payload (tunnel_key_by t option) ≡ judge (get_or tunnel_key_forms t default) w x.now
  tunnel_key-at zero e = refl
  tunnel_key-at (suc zero) e = record_told times of_times as_times _ tunnel_key_word tunnel_key_payload (type_of w) x.now (sym e) refl refl records_lawful.4 o
  tunnel_key-at (suc (suc zero)) e = record_told tunnel_key of_tunnel_key as_tunnel_key _ tunnel_key_word tunnel_key_payload (type_of w) x.now (sym e) refl (same_tunnel_key (tunnel_key.decode x.now)) records_lawful.2 o
  tunnel_key-at (suc (suc (suc zero))) e = exact-told 4 address _ tunnel_key_word tunnel_key_payload (type_of w) x.now x.now (sym e) (λ h. refl)
  tunnel_key-at (suc (suc (suc (suc zero)))) e = exact-told 4 address _ tunnel_key_word tunnel_key_payload (type_of w) x.now x.now (sym e) (λ h. refl)
  tunnel_key-at (suc (suc (suc (suc (suc zero))))) e = exact-told 16 (λ _. address_part x) EncIpv6Src tunnel_key_word tunnel_key_payload (type_of w) x.now x.now (sym e) (λ h. refl)
  tunnel_key-at (suc (suc (suc (suc (suc (suc zero)))))) e = exact-told 16 (λ _. address_part x) EncIpv6Dst tunnel_key_word tunnel_key_payload (type_of w) x.now x.now (sym e) (λ h. refl)
  tunnel_key-at (suc (suc (suc (suc (suc (suc (suc zero))))))) e = exact-told 4 (be 0 4) _ tunnel_key_word tunnel_key_payload (type_of w) x.now x.now (sym e) (λ h. be_again 4 x.now o h)
  tunnel_key-at (suc (suc (suc (suc (suc (suc (suc (suc zero)))))))) e = refl
  tunnel_key-at (suc (suc (suc (suc (suc (suc (suc (suc (suc zero))))))))) e = exact-told 2 (be 0 2) _ tunnel_key_word tunnel_key_payload (type_of w) x.now x.now (sym e) (λ h. be_again 2 x.now o h)
  tunnel_key-at (suc (suc (suc (suc (suc (suc (suc (suc (suc (suc zero)))))))))) e = exact-told 1 (le 0 1) _ tunnel_key_word tunnel_key_payload (type_of w) x.now (truth x.now) (sym e) (λ h. flag_again x.now h)
  tunnel_key-at (suc (suc (suc (suc (suc (suc (suc (suc (suc (suc (suc zero))))))))))) e = refl
  tunnel_key-at (suc (suc (suc (suc (suc (suc (suc (suc (suc (suc (suc (suc zero)))))))))))) e = exact-told 1 (le 0 1) _ tunnel_key_word tunnel_key_payload (type_of w) x.now x.now (sym e) (λ h. byte_again x.now h)
  tunnel_key-at (suc (suc (suc (suc (suc (suc (suc (suc (suc (suc (suc (suc (suc zero))))))))))))) e = exact-told 1 (le 0 1) _ tunnel_key_word tunnel_key_payload (type_of w) x.now x.now (sym e) (λ h. byte_again x.now h)
  tunnel_key-at (suc (suc (suc (suc (suc (suc (suc (suc (suc (suc (suc (suc (suc (suc t)))))))))))))) e =
      rw (ne_eqb (suc (suc (suc (suc (suc (suc (suc (suc (suc (suc (suc (suc (suc (suc t)))))))))))))) 1 (λ q. omega arith), ne_eqb (suc (suc (suc (suc (suc (suc (suc (suc (suc (suc (suc (suc (suc (suc t)))))))))))))) 2 (λ q. omega arith), ne_eqb (suc (suc (suc (suc (suc (suc (suc (suc (suc (suc (suc (suc (suc (suc t)))))))))))))) 3 (λ q. omega arith), ne_eqb (suc (suc (suc (suc (suc (suc (suc (suc (suc (suc (suc (suc (suc (suc t)))))))))))))) 4 (λ q. omega arith), ne_eqb (suc (suc (suc (suc (suc (suc (suc (suc (suc (suc (suc (suc (suc (suc t)))))))))))))) 5 (λ q. omega arith), ne_eqb (suc (suc (suc (suc (suc (suc (suc (suc (suc (suc (suc (suc (suc (suc t)))))))))))))) 6 (λ q. omega arith), ne_eqb (suc (suc (suc (suc (suc (suc (suc (suc (suc (suc (suc (suc (suc (suc t)))))))))))))) 7 (λ q. omega arith), ne_eqb (suc (suc (suc (suc (suc (suc (suc (suc (suc (suc (suc (suc (suc (suc t)))))))))))))) 9 (λ q. omega arith), ne_eqb (suc (suc (suc (suc (suc (suc (suc (suc (suc (suc (suc (suc (suc (suc t)))))))))))))) 10 (λ q. omega arith), ne_eqb (suc (suc (suc (suc (suc (suc (suc (suc (suc (suc (suc (suc (suc (suc t)))))))))))))) 12 (λ q. omega arith), ne_eqb (suc (suc (suc (suc (suc (suc (suc (suc (suc (suc (suc (suc (suc (suc t)))))))))))))) 13 (λ q. omega arith))

  pub tunnel_key-told : told tunnel_key_word tunnel_key_payload (tunnel_key_option option) ≡ judge (get_or tunnel_key_forms (type_of w) default) w x.now
  tunnel_key-told = tunnel_key-at (type_of w) refl

  -- ── by the kind ──
  by_kind : (a b c : Bool) →
      told option_word option_payload (cond a (carried Mirror (mirror_option option)) (cond b (carried Nat (nat_option option)) (cond c (carried TunnelKey (tunnel_key_option option)) (Ok (Other (record { word = w; value = x }))))))
      ≡ judge (get_or (cond a mirred_forms (cond b nat_forms (cond c tunnel_key_forms []))) (type_of w) default) w x.now
  by_kind true b c = carried-told Mirror option_word option_payload (mirror_option option) ∙ mirror-told
  by_kind false true c = carried-told Nat option_word option_payload (nat_option option) ∙ nat-told
  by_kind false false true = carried-told TunnelKey option_word option_payload (tunnel_key_option option) ∙ tunnel_key-told
  by_kind false false false = refl

  pub option-told : (k : Bytes) → told option_word option_payload (option_of k option) ≡ shipped k w x.now
  option-told k = by_kind (bytes_eq k (codes "mirred")) (bytes_eq k (codes "nat")) (bytes_eq k (codes "tunnel_key"))

-- what was read tells the shipped book's answer
pub option-answer : (k : Bytes) (w : ℕ) (x : Bor Bytes) → ((i : ℕ) → Fits w8 (get_or x.now i 0)) → {r : Result TcActionOption Lack} → r ≡ option_of k (record { place = 0; word = w; value = x }) →
    told option_word option_payload r ≡ shipped k w x.now
option-answer k w x bytes q = ap (told option_word option_payload) q ∙ option-told w x (octets x.now bytes) k
