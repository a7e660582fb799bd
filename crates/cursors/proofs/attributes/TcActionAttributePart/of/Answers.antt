use Rattle.std.proofs.Common.{rules}
use Rattle.cursors.proofs.attributes.TcActionAttributePart.of.Goals as goal

pub returns : goal.returns
returns c = λ s t h g. (λ m k. let e = c.parse.ensures.reads m k in search rules, search rules)
