use Rattle.std.proofs.Common.{arith}
use Rattle.payload.proofs.TextSteps.{next_good}
use Rattle.payload.proofs.text.Partway.after.Goals as goal

pub returns : goal.returns
returns c more = next_good c.args.self.left c.args.self.from c.args.self.to c.args.byte more (λ e. omega arith) (omega arith) (omega arith)
