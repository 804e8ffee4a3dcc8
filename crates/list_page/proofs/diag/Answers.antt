-- diag: its six words, in turn.
use Rattle.std.proofs.Common.{refl}
use Rattle.list_page.specs.Page.{diag_of}
use Rattle.list_page.proofs.diag.Goals as goal

pub returns : goal.returns
unfolding diag_of
returns c = refl
