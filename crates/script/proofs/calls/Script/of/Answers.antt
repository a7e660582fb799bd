use Rattle.std.proofs.Common.{◌≡◌, ◌++◌, List, ap, ◌∙◌, vec_items}
use Rattle.model.proofs.Books.{shipped_laws}
use Rattle.model.specs.Shipped.{shipped}
use Rattle.model.specs.Walk.{walk}
use Rattle.netlink.specs.Walking.{ahead}
use Rattle.page.specs.declared.call.Call.{Call}
use Rattle.page_build.proofs.ReadingTurns.{reading_same}
use Rattle.page_build.specs.Fillings.{row_turns, filter_turns_at}
use Rattle.script.specs.Listings.{own_turns}
use Rattle.script.proofs.calls.Script.of.Goals as goal

pub returns-clause-builds : goal.returns-clause-builds
returns-clause-builds c filter octets r reads is short =
    let listed : own_turns (vec_items c.list_each.new.calls) ≡ row_turns filter_turns_at (walk 0 c.args.written.now) =
    c.in_ok-list_each.ensures
    ∙ (ap (λ (z : List Call). own_turns z ++ row_turns filter_turns_at (ahead c.new-walk.result)) c.new-calls.ensures.items
    ∙ ap (row_turns filter_turns_at) c.new-walk.ensures.walks) in
    listed ∙ (ap (λ z. row_turns filter_turns_at (walk 0 z)) is ∙ reading_same shipped shipped_laws filter octets r reads short)
