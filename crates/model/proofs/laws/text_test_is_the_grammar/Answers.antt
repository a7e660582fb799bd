use Rattle.model.proofs.Texts.{test_is_grammar}
use Rattle.model.proofs.laws.text_test_is_the_grammar.Goals as goal

pub returns : goal.returns
returns c = test_is_grammar
