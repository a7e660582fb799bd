use Rattle.script.proofs.Listings.{own_more}
use Rattle.script.proofs.listers.PutsLister.list.Goals as goal

pub returns : goal.returns
returns c = own_more _ _ _ c.in_ok-push.ensures.items
