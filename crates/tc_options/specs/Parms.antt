-- The options of an action that has its times, its parameters, and no other types of option: what an attribute reads as, and the word and
-- payload that an option means. Assumes nothing.
use Rattle.std.specs.Prelude.{ℕ, cond, Ok, Result, ◌==◌}
use Rattle.model.specs.Numbers.{Bytes}
use Rattle.model.specs.Attributes.{type_of}
use Rattle.model.specs.Records.{times}
use Rattle.payload.specs.Errors.{Lack}
use Rattle.netlink.specs.declared.buffer.NlaBuffer.{NlaBuffer}
use Rattle.tc_records.specs.Layouts.{as_times, of_times}
use Rattle.tc_records.specs.Reading.{at_least}
use Rattle.tc_options.specs.Carried.{carried, record_in}
use Rattle.tc_options.specs.declared.parms.TcActionParmsOption.{TcActionParmsOption}
use Rattle.tc_options.specs.declared.parms.TcActionParmsOption.TheVariants.{Tm, Parms, Other}

-- by its type: the times, the parameters of so many bytes, or as it stands
abbrev pub parms_by : {P : Type 0} → (tm parms size : ℕ) → (Bytes → P) → (type : ℕ) → NlaBuffer → Result (TcActionParmsOption P) Lack
parms_by tm parms n of t b =
    cond (t == tm) (record_in times of_times Tm b.value.now)
    (cond (t == parms) (carried Parms (at_least n of b.value.now))
    (Ok (Other (record { word = b.word; value = b.value }))))

abbrev pub parms_option : {P : Type 0} → (tm parms size : ℕ) → (Bytes → P) → NlaBuffer → Result (TcActionParmsOption P) Lack
parms_option tm parms n of b = parms_by tm parms n of (type_of b.word) b

abbrev pub parms_word : {P : Type 0} → (tm parms : ℕ) → TcActionParmsOption P → ℕ
parms_word tm parms (Tm t) = tm
parms_word tm parms (Parms p) = parms
parms_word tm parms (Other a) = a.word

abbrev pub parms_payload : {P : Type 0} → (P → Bytes) → TcActionParmsOption P → Bytes
parms_payload encode (Tm t) = times.encode (as_times t)
parms_payload encode (Parms p) = encode p
parms_payload encode (Other a) = a.value.now
