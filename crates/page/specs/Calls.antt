-- What the code's calls mean. Assumes nothing.
use Rattle.model.specs.Page as model
use Rattle.page.specs.declared.call.Call.{Call}
use Rattle.page.specs.declared.call.Call.TheVariants.{Put, Open, Close, Strike}

abbrev pub meant : Call → model.Call
meant (Put w x) = model.put w x.now
meant (Open t) = model.open_nest t
meant Close = model.close
meant Strike = model.strike
