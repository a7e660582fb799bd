-- An option of an action: by the action's kind it is one of a mirror action, an address translation or a tunnel key action, as these are
-- read; under every other kind it is kept as it stands. Assumes nothing.
use Rattle.std.specs.Prelude.{ℕ, cond, Ok, codes, Result}
use Rattle.std.specs.Str.{bytes_eq}
use Rattle.model.specs.Numbers.{Bytes}
use Rattle.payload.specs.Errors.{Lack}
use Rattle.netlink.specs.declared.buffer.NlaBuffer.{NlaBuffer}
use Rattle.tc_options.specs.Carried.{carried}
use Rattle.tc_options.specs.Mirrors.{mirror_option, mirror_word, mirror_payload}
use Rattle.tc_options.specs.Nats.{nat_option, nat_word, nat_payload}
use Rattle.tc_options.specs.TunnelKeys.{tunnel_key_option, tunnel_key_word, tunnel_key_payload}
use Rattle.tc_options.specs.declared.option.TcActionOption.{TcActionOption}
use Rattle.tc_options.specs.declared.option.TcActionOption.TheVariants.{Mirror, Nat, TunnelKey, Other}

abbrev pub option_of : Bytes → NlaBuffer → Result TcActionOption Lack
option_of k b =
    cond (bytes_eq k (codes "mirred")) (carried Mirror (mirror_option b))
    (cond (bytes_eq k (codes "nat")) (carried Nat (nat_option b))
    (cond (bytes_eq k (codes "tunnel_key")) (carried TunnelKey (tunnel_key_option b))
    (Ok (Other (record { word = b.word; value = b.value })))))

-- what it is written as is what is written of the option under its kind
abbrev pub option_word : TcActionOption → ℕ
option_word (Mirror o) = mirror_word o
option_word (Nat o) = nat_word o
option_word (TunnelKey o) = tunnel_key_word o
option_word (Other a) = a.word

abbrev pub option_payload : TcActionOption → Bytes
option_payload (Mirror o) = mirror_payload o
option_payload (Nat o) = nat_payload o
option_payload (TunnelKey o) = tunnel_key_payload o
option_payload (Other a) = a.value.now
