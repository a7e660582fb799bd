use Rattle.std.proofs.Common.{◌≡◌, length, take, ap, ◌∙◌}
use Rattle.model.specs.Faults.{Read}
use Rattle.model.specs.Page.{Page, State, state, only_fault}
use Rattle.model.specs.Runs.{run, start}
use Rattle.model.specs.Walk.{Walked, walk}
use Rattle.netlink.specs.Walking.{ahead}
use Rattle.page.specs.Pages.{as_page}
use Rattle.tc.proofs.Told.{octets}
use Rattle.page_build.specs.Fillings.{row_turns, filter_turns_at}
use Rattle.page_build.proofs.Builds.{made_page, fits, built}
use Rattle.page_build.proofs.build.build.Goals as goal

pub returns : goal.returns
returns g c =
    let m = g.B.Book.meaning c.args.book.now in
    let mem = c.args.memory.now in
    let old = c.args.scratch.now in
    let bs = c.args.filter.now in
    let size = c.in_ok-size.size in
    let new = c.write_out.new.output in
    let wrote = c.in_ok-size.ensures.value in
    let page = as_page c.in_ok-page.page in
    let made = made_page page mem c.in_ok-page.ensures.value in
    let s = state (as_page c.fill_each.new.page) c.fill_each.new.memory in
    let left : s ≡ run m (start mem) (row_turns filter_turns_at (walk 0 (take size new))) =
    c.fill_each.ensures
    ∙ ap (λ (z : State). run m z (row_turns filter_turns_at (ahead c.new-walk.result))) made.1
    ∙ ap (λ (w : Walked). run m (start mem) (row_turns filter_turns_at w)) c.new-walk.ensures.walks in
    record {
      value = ap (λ (r : Read Page). only_fault r) c.in_ok-page.ensures.value ∙ fits m old bs (length mem) size wrote c.if-memory-size.false;
      page = built m old bs (length mem) size wrote (g.met.B.Book.lawful c.args.book.now) (octets bs c.type_inv.filter) mem c.if-memory-size.false made.0 new c.write_out.ensures.after s left;
      scratch = c.write_out.ensures.after;
    }
