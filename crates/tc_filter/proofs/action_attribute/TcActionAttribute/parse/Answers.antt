use Rattle.std.proofs.Common.{rules, Ok}
use Rattle.tc_filter.specs.declared.action_attribute.TcActionAttribute.TheVariants.{Kind}
use Rattle.tc_filter.proofs.ByType.{attribute-as_read}
use Rattle.tc_filter.proofs.KindLengths.{kind_shorter}
use Rattle.tc_filter.proofs.action_attribute.TcActionAttribute.parse.Goals as goal

pub returns-in_err-parse_string-in-1-clause-reads : goal.returns-in_err-parse_string-in-1-clause-reads
returns-in_err-parse_string-in-1-clause-reads c = λ m k. attribute-as_read m k c.args.buf.now c.from_residual.result (search rules)

pub returns-in_ok-parse_string-in-1-clause-reads : goal.returns-in_ok-parse_string-in-1-clause-reads
returns-in_ok-parse_string-in-1-clause-reads c = λ m k. attribute-as_read m k c.args.buf.now (Ok (Kind c.in_ok-parse_string-in-1.field-0)) (search rules)

pub returns-in_ok-parse_string-in-1-clause-part : goal.returns-in_ok-parse_string-in-1-clause-part
returns-in_ok-parse_string-in-1-clause-part c = kind_shorter c.args.buf.now.value.now c.in_ok-parse_string-in-1.field-0 c.in_ok-parse_string-in-1.ensures.text
