-- The code's page as the model has it. Assumes nothing.
use Rattle.std.specs.Prelude.{Ok, Err, Result}
use Rattle.model.specs.declared.fault.Fault.{Fault}
use Rattle.model.specs.Faults.{Read, numbers}
use Rattle.model.specs.Page as model
use Rattle.page.specs.declared.page.Page.{Page}
use Rattle.page.specs.Levels.{heads_of}

abbrev pub as_page : Page → model.Page
as_page p = record { size = p.size; used = p.used; heads = heads_of p.level }

-- what the making of a page answered
abbrev pub as_made : Result Page Fault → Read model.Page
as_made (Ok p) = Ok (as_page p)
as_made (Err f) = Err (numbers f)
