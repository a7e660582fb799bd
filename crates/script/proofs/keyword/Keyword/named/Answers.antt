use Rattle.std.proofs.Common.{rules}
use Rattle.std.proofs.lemmas.Slice.Eq.{text_from_reads}
use Rattle.script.proofs.keyword.Keyword.named.Goals as goal

pub returns-in-strike : goal.returns-in-strike
returns-in-strike c = search (rules, text_from_reads)
