use Rattle.model.proofs.Books.{books_lawful}
use Rattle.model.proofs.laws.books_keep_the_laws.Goals as goal

pub returns : goal.returns
returns c = books_lawful
