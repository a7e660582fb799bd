use Rattle.std.proofs.Common.{◌<◌, rules}
use Rattle.payload.proofs.Lengths.{by_table}
use Rattle.payload.proofs.text.length_by.Goals as goal

pub returns : goal.returns
returns c = let h : c.args.first < 256 = search rules in by_table c.args.first h
