use Rattle.std.proofs.Common.{rules, Ok}
use Rattle.tc_filter.specs.declared.cls_u32.TcFilterU32Option.TheVariants.{Other}
use Rattle.tc_filter.proofs.ByType.{option-as_read}
use Rattle.tc_filter.proofs.cls_u32.TcFilterU32Option.parse.Goals as goal

pub returns-in_default-clause-reads : goal.returns-in_default-clause-reads
returns-in_default-clause-reads c = λ m. option-as_read m c.args.buf.now (Ok (Other c.from-in_default.result)) (search rules)
