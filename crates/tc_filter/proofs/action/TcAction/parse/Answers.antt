use Rattle.std.proofs.Common.{rules}
use Rattle.tc_filter.proofs.ActionsFound.{found_reads}
use Rattle.tc_filter.proofs.action.TcAction.parse.Goals as goal

pub returns-in_err-kind-clause-reads : goal.returns-in_err-kind-clause-reads
returns-in_err-kind-clause-reads c = λ h m. found_reads m c.args.buf.now h c.from_residual.result (search rules)
