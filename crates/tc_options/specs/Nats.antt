-- The options of an address translation: what an attribute reads as, and the word and payload that an option means. Assumes nothing.
use Rattle.std.specs.Prelude.{ℕ, Result}
use Rattle.model.specs.Numbers.{Bytes}
use Rattle.model.specs.Attributes.{type_of}
use Rattle.model.specs.Records.{nat}
use Rattle.payload.specs.Errors.{Lack}
use Rattle.netlink.specs.declared.buffer.NlaBuffer.{NlaBuffer}
use Rattle.tc_records.specs.Layouts.{as_nat, of_nat}
use Rattle.tc_records.specs.declared.nat.TcNat.{TcNat}
use Rattle.tc_options.specs.Parms.{parms_by, parms_word, parms_payload}
use Rattle.tc_options.specs.declared.parms.TcActionParmsOption.{TcActionParmsOption}

-- by its type
abbrev pub nat_by : (type : ℕ) → NlaBuffer → Result (TcActionParmsOption TcNat) Lack
nat_by = parms_by 2 1 nat.size (λ bs. of_nat (nat.decode bs))

abbrev pub nat_option : NlaBuffer → Result (TcActionParmsOption TcNat) Lack
nat_option b = nat_by (type_of b.word) b

abbrev pub nat_word : TcActionParmsOption TcNat → ℕ
nat_word = parms_word 2 1

abbrev pub nat_payload : TcActionParmsOption TcNat → Bytes
nat_payload = parms_payload (λ p. nat.encode (as_nat p))
