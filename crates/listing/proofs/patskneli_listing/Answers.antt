-- patskneli_listing: the text, and then its end (`done`).
use Rattle.base_text.specs.Laws.{done}
use Rattle.listing.proofs.patskneli_listing.Goals as goal

pub returns : goal.returns
returns c = done c.put_listing-at.ensures c.finish.ensures
