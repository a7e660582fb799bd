use Rattle.std.proofs.Common.{rules}
use Rattle.cursors.proofs.options.TcFilterU32OptionPart.of.Goals as goal

pub returns : goal.returns
returns c = λ s t h g. (λ m. let e = c.parse.ensures.reads m in search rules, search rules)
