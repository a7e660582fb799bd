-- A default attribute is read as it stands, with its flags. Assumes nothing.
use Rattle.std.specs.Prelude.{Ok, Result}
use Rattle.payload.specs.Errors.{Lack}
use Rattle.netlink.specs.declared.buffer.NlaBuffer.{NlaBuffer}
use Rattle.netlink.specs.declared.default_nla.DefaultNla.{DefaultNla}

abbrev pub as_it_stands : NlaBuffer → Result DefaultNla Lack
as_it_stands b = Ok (record { word = b.word; value = b.value })
