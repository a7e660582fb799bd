use Rattle.model.proofs.Utf8Texts.{grammar_is_utf8}
use Rattle.model.proofs.laws.kind_text_is_utf8.Goals as goal

pub returns : goal.returns
returns c = grammar_is_utf8
