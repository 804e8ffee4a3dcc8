-- put_tiny: the text of these buffers, or that of the next.
use Rattle.listing.proofs.Laws.{again}
use Rattle.listing.proofs.put_tiny.Goals as goal

pub returns-in-Some : goal.returns-in-Some
returns-in-Some c = c.put_level.ensures.wrote _ c.in-Some.is

pub returns-in-None : goal.returns-in-None
returns-in-None c = again c.in-None.is c.put_level.ensures c.put_small.ensures
