use Rattle.model.proofs.Pages.{every_filter_is_a_page}
use Rattle.model.proofs.laws.every_filter_is_a_page.Goals as goal

pub returns : goal.returns
returns c = every_filter_is_a_page
