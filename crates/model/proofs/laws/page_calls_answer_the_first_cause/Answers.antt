use Rattle.model.proofs.PageRefusals.{page_calls_answer_the_first_cause}
use Rattle.model.proofs.Utf8Texts.{grammar_is_utf8}
use Rattle.model.proofs.laws.page_calls_answer_the_first_cause.Goals as goal

pub returns : goal.returns
returns c = page_calls_answer_the_first_cause grammar_is_utf8
