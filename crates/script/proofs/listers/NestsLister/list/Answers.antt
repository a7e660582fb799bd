use Rattle.std.proofs.Common.{◌≡◌, ◌+◌, ◌++◌, ℕ, List, ap, ◌∙◌, arith, vec_items}
use Rattle.model.specs.Runs.{Turn}
use Rattle.model.specs.Walk.{Walked, walk}
use Rattle.page_build.specs.Fillings.{row_turns, nest_turns}
use Rattle.script.specs.Listings.{own_turns}
use Rattle.script.proofs.Listings.{own_more, nest_listed}
use Rattle.script.proofs.listers.NestsLister.list.Goals as goal

pub returns : goal.returns
returns g c =
    let a = c.args.nla.now in
    let turns_at = g.L.Lister.turns c.args.self.now.inside in
    let before = own_turns (vec_items c.args.calls.now) in
    let opened = own_turns (vec_items c.push.new.self) in
    let filled = own_turns (vec_items c.list_each.new.calls) in
    let inside : List Turn = row_turns turns_at (walk (a.place + 4) a.value.now) in
    let row : filled ≡ opened ++ inside = c.in_ok-list_each.ensures ∙ ap (λ (z : Walked). opened ++ row_turns turns_at z) (c.nested.ensures.walks (omega arith)) in
    nest_listed c.kind.result before opened filled (own_turns (vec_items c.push-2.new.self)) inside
    (own_more _ _ _ c.in_ok-push.ensures.items) row (own_more _ _ _ c.in_ok-push-2.ensures.items)
    ∙ ap (λ (t : ℕ). before ++ nest_turns t inside) c.kind.ensures
