use Rattle.std.proofs.Common.{◌≡◌, ℕ, ◌+◌, List, ap, ◌∙◌, arith}
use Rattle.model.specs.Faults.{answered}
use Rattle.model.specs.Page.{state}
use Rattle.model.specs.Runs.{Turn, run}
use Rattle.model.specs.Walk.{Walked, walk}
use Rattle.page.specs.Pages.{as_page}
use Rattle.page_build.specs.Fillings.{row_turns, nest_turns}
use Rattle.page_build.proofs.Rows.{nest_filled}
use Rattle.page_build.proofs.fillers.NestsFiller.fill.Goals as goal

pub returns : goal.returns
returns g c =
    let m = g.B.Book.meaning c.args.book.now in
    let a = c.args.nla.now in
    let turns_at = g.F.Filler.turns c.args.self.now.inside in
    let s = state (as_page c.args.page.now) c.args.memory.now in
    let s₁ = state (as_page c.open.new.self) c.open.new.memory in
    let s₂ = state (as_page c.fill_each.new.page) c.fill_each.new.memory in
    let s₃ = state (as_page c.close.new.self) c.close.new.memory in
    let inside : List Turn = row_turns turns_at (walk (a.place + 4) a.value.now) in
    let filled : s₂ ≡ run m s₁ inside = c.fill_each.ensures ∙ ap (λ (z : Walked). run m s₁ (row_turns turns_at z)) (c.nested.ensures.walks (omega arith)) in
    nest_filled m s s₁ s₂ s₃ c.kind.result (answered c.open.result) (answered c.close.result) inside c.open.ensures.outcome filled c.close.ensures
    ∙ ap (λ (t : ℕ). run m s (nest_turns t inside)) c.kind.ensures
