use Rattle.std.proofs.Common.{◌∙◌}
use Rattle.model.specs.Page.{state}
use Rattle.netlink.specs.Walking.{ahead}
use Rattle.page.specs.Pages.{as_page}
use Rattle.page_build.proofs.Rows.{found-one, row_more}
use Rattle.page_build.proofs.filler.fill_each.Goals as goal

pub loop-nla-preserved : goal.loop-nla-preserved
loop-nla-preserved g c =
    let a = c.in-Ok.nla in
    let step = found-one c.loop-nla.nla-iterator c.next.new.self c.in-Some.nla a c.in-Ok.is c.in-Some.ensures.steps in
    let s = state (as_page c.loop-nla.page) c.loop-nla.memory in
    let t = state (as_page c.fill.new.page) c.fill.new.memory in (
      tt,
      tt,
      row_more (g.B.Book.meaning c.args.book.now) (g.F.Filler.turns c.args.filler.now) s t a.place a.word a.value.now (ahead c.next.new.self) (ahead c.loop-nla.nla-iterator) step.0 c.fill.ensures
          ∙ c.loop-nla.invariant.2,
      step.2 ∙ c.loop-nla.invariant.3,
    )
