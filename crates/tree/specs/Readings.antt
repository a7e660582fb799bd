-- The counts that a reading tells. Assumes nothing.
use Rattle.std.specs.Prelude.{Ok, Err, Result}
use Rattle.model.specs.Counts as counting
use Rattle.model.specs.Faults.{Read}
use Rattle.model.specs.declared.fault.Fault.{Fault}
use Rattle.filter.specs.Reads.{counts_heard}
use Rattle.tree.specs.declared.whole.Reading.{Reading}

abbrev pub counts_told : Result Reading Fault → Read counting.Counts
counts_told (Ok r) = counts_heard (Ok r.counts)
counts_told (Err f) = counts_heard (Err f)
