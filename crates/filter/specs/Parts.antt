-- What a step of a walk over a row of a filter that is not too long gives. Assumes nothing.
use Rattle.std.specs.Prelude.{Some, None, Ok, Err, Option, Result}
use Rattle.model.specs.declared.fault.Fault.{Fault}
use Rattle.netlink.specs.Walking.{Goes}
use Rattle.filter.specs.declared.part.Part.{Part}
use Rattle.filter.specs.declared.part.Row.{Row}

-- one call of `next`: the walk of netlink goes on, and what it found is a part of the filter
abbrev pub PartGoes : Row → Option (Result Part Fault) → Row → Type 0
PartGoes s None t = Goes s.walk None t.walk
PartGoes s (Some (Ok a)) t = Goes s.walk (Some (Ok a.nla)) t.walk
PartGoes s (Some (Err f)) t = Goes s.walk (Some (Err f)) t.walk
