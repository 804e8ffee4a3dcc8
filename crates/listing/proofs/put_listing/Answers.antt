-- put_listing: an image's listing, or `E 5`.
use mathlib.Core.Path.{sym, ◌∙◌}
use Rattle.list_image.specs.Laws.{shaped, not_image}
use Rattle.listing.proofs.Laws.{no_image}
use Rattle.listing.proofs.put_listing.Goals as goal

pub invariant_of-put_least : goal.invariant_of-put_least
invariant_of-put_least c = record { shaped = shaped c.args.image.now c.in-Some.shape (sym c.in-Some.is ∙ c.open.ensures) }

pub returns-in-None : goal.returns-in-None
returns-in-None c = no_image c.args.image.now (not_image c.args.image.now (sym c.in-None.is ∙ c.open.ensures)) c.put_refusal.ensures
