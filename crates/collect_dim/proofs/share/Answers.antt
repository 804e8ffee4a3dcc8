-- `share`: nothing, a diagnostic, or all of them shared. Assumes nothing.
use Rattle.collect_dim.proofs.Doing.{share_inside, share_module}
use mathlib.Core.Bool.{not}
use mathlib.Core.Path.{ap}
use Rattle.collect_dim.proofs.share.Goals as goal

pub returns-then-st-ne0 : goal.returns-then-st-ne0
returns-then-st-ne0 c = share_inside c.requires.0 (ap not c.if-not-shared.false) c.if-st-ne0.true c.push.ensures

pub returns : goal.returns
returns c = share_module c.requires.0 (ap not c.if-not-shared.false) c.if-st-ne0.false c.share_all.ensures
