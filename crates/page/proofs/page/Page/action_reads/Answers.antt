use Rattle.std.proofs.Common.{◌∙◌, arith}
use Rattle.page.specs.Pages.{as_page}
use Rattle.page.proofs.ActionParts.{action-part}
use Rattle.page.proofs.page.Page.action_reads.Goals as goal

pub returns : goal.returns
returns g c =
    c.read_action.ensures
    ∙ action-part (g.B.Book.meaning c.args.book.now) c.args.memory.now (as_page c.args.self.now) c.args.head (omega arith) (omega arith) (omega arith)
