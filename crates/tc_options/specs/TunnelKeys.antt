-- The options of a tunnel key action: what an attribute reads as, and the word and payload that an option means. Assumes nothing.
use Rattle.std.specs.Prelude.{ℕ, cond, not, [], ◌∷◌, Ok, Result, ◌==◌}
use Rattle.model.specs.Numbers.{Bytes, le, be, be_bytes}
use Rattle.model.specs.Attributes.{type_of}
use Rattle.model.specs.Records.{times, tunnel_key}
use Rattle.payload.specs.Errors.{Lack}
use Rattle.payload.specs.Payloads.{exactly, address}
use Rattle.payload.specs.declared.ip.Ipv6Addr.{Ipv6Addr}
use Rattle.netlink.specs.declared.buffer.NlaBuffer.{NlaBuffer}
use Rattle.tc_records.specs.Layouts.{as_times, of_times, as_tunnel_key, of_tunnel_key}
use Rattle.tc_options.specs.Carried.{carried, record_in}
use Rattle.tc_options.specs.declared.tunnel_key.TcActionTunnelKeyOption.{TcActionTunnelKeyOption}
use Rattle.tc_options.specs.declared.tunnel_key.TcActionTunnelKeyOption.TheVariants.{Tm, Parms, EncIpv4Src, EncIpv4Dst, EncIpv6Src, EncIpv6Dst, EncKeyId, EncDstPort, NoCsum, EncTos, EncTtl, Other}

-- an IPv6 address is that part of the payload
abbrev part_of : NlaBuffer → Ipv6Addr
part_of b = record { octets = b.value }

-- by its type
abbrev pub tunnel_key_by : (type : ℕ) → NlaBuffer → Result TcActionTunnelKeyOption Lack
tunnel_key_by t b =
    cond (t == 1) (record_in times of_times Tm b.value.now)
    (cond (t == 2) (record_in tunnel_key of_tunnel_key Parms b.value.now)
    (cond (t == 3) (carried EncIpv4Src (exactly 4 address b.value.now))
    (cond (t == 4) (carried EncIpv4Dst (exactly 4 address b.value.now))
    (cond (t == 5) (carried EncIpv6Src (exactly 16 (λ _. part_of b) b.value.now))
    (cond (t == 6) (carried EncIpv6Dst (exactly 16 (λ _. part_of b) b.value.now))
    (cond (t == 7) (carried EncKeyId (exactly 4 (be 0 4) b.value.now))
    (cond (t == 9) (carried EncDstPort (exactly 2 (be 0 2) b.value.now))
    (cond (t == 10) (carried (λ n. NoCsum (not (n == 0))) (exactly 1 (le 0 1) b.value.now))
    (cond (t == 12) (carried EncTos (exactly 1 (le 0 1) b.value.now))
    (cond (t == 13) (carried EncTtl (exactly 1 (le 0 1) b.value.now))
    (Ok (Other (record { word = b.word; value = b.value })))))))))))))

abbrev pub tunnel_key_option : NlaBuffer → Result TcActionTunnelKeyOption Lack
tunnel_key_option b = tunnel_key_by (type_of b.word) b

abbrev pub tunnel_key_word : TcActionTunnelKeyOption → ℕ
tunnel_key_word (Tm x) = 1
tunnel_key_word (Parms x) = 2
tunnel_key_word (EncIpv4Src x) = 3
tunnel_key_word (EncIpv4Dst x) = 4
tunnel_key_word (EncIpv6Src x) = 5
tunnel_key_word (EncIpv6Dst x) = 6
tunnel_key_word (EncKeyId x) = 7
tunnel_key_word (EncDstPort x) = 9
tunnel_key_word (NoCsum x) = 10
tunnel_key_word (EncTos x) = 12
tunnel_key_word (EncTtl x) = 13
tunnel_key_word (Other a) = a.word

abbrev pub tunnel_key_payload : TcActionTunnelKeyOption → Bytes
tunnel_key_payload (Tm x) = times.encode (as_times x)
tunnel_key_payload (Parms x) = tunnel_key.encode (as_tunnel_key x)
tunnel_key_payload (EncIpv4Src x) = x.octets
tunnel_key_payload (EncIpv4Dst x) = x.octets
tunnel_key_payload (EncIpv6Src x) = x.octets.now
tunnel_key_payload (EncIpv6Dst x) = x.octets.now
tunnel_key_payload (EncKeyId x) = be_bytes 4 x
tunnel_key_payload (EncDstPort x) = be_bytes 2 x
tunnel_key_payload (NoCsum x) = cond x 1 0 ∷ []
tunnel_key_payload (EncTos x) = x ∷ []
tunnel_key_payload (EncTtl x) = x ∷ []
tunnel_key_payload (Other a) = a.value.now
