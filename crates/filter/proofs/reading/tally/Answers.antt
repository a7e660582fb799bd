use Rattle.std.proofs.Common.{ap, ◌∙◌, arith}
use Rattle.model.specs.Faults.{layer_number}
use Rattle.model.specs.declared.fault.Layer.{Layer}
use Rattle.netlink.specs.Walking.{ahead}
use Rattle.filter.specs.Summaries.{option_summary, tally_all}
use Rattle.filter.proofs.Filters.{filter_is}
use Rattle.filter.proofs.reading.tally.Goals as goal

pub returns : goal.returns
returns g c =
    let m = g.B.Book.meaning c.args.book.now in
    c.read_each.ensures.value
    ∙ ap (λ (l : Layer). tally_all (layer_number l) (option_summary m) (ahead c.row.result.walk)) c.row.ensures.layer
    ∙ ap (tally_all 1 (option_summary m)) c.row.ensures.walks
    ∙ filter_is m c.args.filter.now.bytes.now (omega arith)
