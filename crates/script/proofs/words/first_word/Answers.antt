use Rattle.std.proofs.Common.{◌≡◌, rules, sym, ◌∙◌}
use borrow.Author.Tests.{tests}
use Rattle.std.proofs.lemmas.Iterator.{YieldsList-from_slice}
use Rattle.std.proofs.lemmas.Iterator.Search.{position_from_yields_List}
use Rattle.hexadecimal.specs.PlainText.{blank}
use Rattle.script.proofs.Blanks.{first_blank, blank_at, blank_none}
use Rattle.script.proofs.words.first_word.Goals as goal

pub returns-in-Some : goal.returns-in-Some
returns-in-Some c =
    let p : c.position.result ≡ first_blank c.args.text.now = position_from_yields_List blank _ _ _ c.position.ensures.ran (YieldsList-from_slice c.args.text.now cc) (λ x b q k. search (rules, tests)) in
    blank_at c.args.text.now c.in-Some.end (sym p ∙ c.in-Some.is)

pub returns-in-None : goal.returns-in-None
returns-in-None c =
    let p : c.position.result ≡ first_blank c.args.text.now = position_from_yields_List blank _ _ _ c.position.ensures.ran (YieldsList-from_slice c.args.text.now cc) (λ x b q k. search (rules, tests)) in
    blank_none c.args.text.now (sym p ∙ c.in-None.is)
