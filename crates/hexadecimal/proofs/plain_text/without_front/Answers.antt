use Rattle.std.proofs.Common.{rules, not, sym, ◌∙◌, ◌≡◌}
use borrow.Author.Tests.{tests}
use Rattle.std.proofs.lemmas.Iterator.{YieldsList-from_slice}
use Rattle.std.proofs.lemmas.Iterator.Search.{position_from_yields_List}
use Rattle.std.proofs.lemmas.List.{take_rest}
use Rattle.hexadecimal.specs.PlainText.{blank}
use Rattle.hexadecimal.proofs.Trims.{first, front_at, front_none}
use Rattle.hexadecimal.proofs.plain_text.without_front.Goals as goal

pub returns-in-Some : goal.returns-in-Some
returns-in-Some c =
    let p : c.position.result ≡ first c.args.text.now = position_from_yields_List (λ x. not (blank x)) _ _ _ c.position.ensures.ran (YieldsList-from_slice c.args.text.now cc) (λ x b q k. search (rules, tests)) in
    take_rest c.args.text.now c.in-Some.first ∙ sym (front_at c.args.text.now c.in-Some.first (sym p ∙ c.in-Some.is))

pub returns-in-None : goal.returns-in-None
returns-in-None c =
    let p : c.position.result ≡ first c.args.text.now = position_from_yields_List (λ x. not (blank x)) _ _ _ c.position.ensures.ran (YieldsList-from_slice c.args.text.now cc) (λ x b q k. search (rules, tests)) in
    sym (front_none c.args.text.now (sym p ∙ c.in-None.is))
