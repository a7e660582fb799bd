use Rattle.std.proofs.Common.{rules, not, reverse, sym, ap, ◌∙◌, ◌≡◌}
use borrow.Author.Tests.{tests}
use Rattle.std.proofs.lemmas.Iterator.Adapters.{YieldsList-from_rev_slice}
use Rattle.std.proofs.lemmas.Iterator.Search.{position_from_yields_List}
use Rattle.hexadecimal.specs.PlainText.{blank}
use Rattle.hexadecimal.proofs.Trims.{first, back_at, front_none}
use Rattle.hexadecimal.proofs.plain_text.without_back.Goals as goal

pub returns-in-Some : goal.returns-in-Some
returns-in-Some c =
    let p : c.position.result ≡ first (reverse c.args.text.now) = position_from_yields_List (λ x. not (blank x)) _ _ _ c.position.ensures.ran (YieldsList-from_rev_slice c.args.text.now cc) (λ x b q k. search (rules, tests)) in
    back_at c.args.text.now c.in-Some.behind (sym p ∙ c.in-Some.is)

pub returns-in-None : goal.returns-in-None
returns-in-None c =
    let p : c.position.result ≡ first (reverse c.args.text.now) = position_from_yields_List (λ x. not (blank x)) _ _ _ c.position.ensures.ran (YieldsList-from_rev_slice c.args.text.now cc) (λ x b q k. search (rules, tests)) in
    sym (ap reverse (front_none (reverse c.args.text.now) (sym p ∙ c.in-None.is)))
