-- The options of a mirror action: what an attribute reads as, and the word and payload that an option means. Assumes nothing.
use Rattle.std.specs.Prelude.{ℕ, Result}
use Rattle.model.specs.Numbers.{Bytes}
use Rattle.model.specs.Attributes.{type_of}
use Rattle.model.specs.Records.{mirror}
use Rattle.payload.specs.Errors.{Lack}
use Rattle.netlink.specs.declared.buffer.NlaBuffer.{NlaBuffer}
use Rattle.tc_records.specs.Layouts.{as_mirror, of_mirror}
use Rattle.tc_records.specs.declared.mirror.TcMirror.{TcMirror}
use Rattle.tc_options.specs.Parms.{parms_by, parms_word, parms_payload}
use Rattle.tc_options.specs.declared.parms.TcActionParmsOption.{TcActionParmsOption}

-- by its type
abbrev pub mirror_by : (type : ℕ) → NlaBuffer → Result (TcActionParmsOption TcMirror) Lack
mirror_by = parms_by 1 2 mirror.size (λ bs. of_mirror (mirror.decode bs))

abbrev pub mirror_option : NlaBuffer → Result (TcActionParmsOption TcMirror) Lack
mirror_option b = mirror_by (type_of b.word) b

abbrev pub mirror_word : TcActionParmsOption TcMirror → ℕ
mirror_word = parms_word 1 2

abbrev pub mirror_payload : TcActionParmsOption TcMirror → Bytes
mirror_payload = parms_payload (λ p. mirror.encode (as_mirror p))
