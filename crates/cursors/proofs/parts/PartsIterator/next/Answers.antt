use Rattle.std.proofs.Common.{rules}
use Rattle.cursors.proofs.parts.PartsIterator.next.Goals as goal

pub returns-clause-steps : goal.returns-clause-steps
returns-clause-steps g c = search (rules, c.of.ensures)
