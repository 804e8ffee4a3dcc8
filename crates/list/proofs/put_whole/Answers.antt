-- put_whole: the text fits, as every listing does.
use Rattle.law_longest_listing.specs.Longest.{whole_listing}
use Rattle.list.proofs.put_whole.Goals as goal

pub returns : goal.returns
returns c = whole_listing _ _ _ _ (λ i. (c.type_inv.image i).fits) c.requires c.patskneli_listing.ensures
