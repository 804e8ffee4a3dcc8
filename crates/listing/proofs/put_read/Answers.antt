-- put_read: the parts read are the parts of the image, so that the text is the listing (`image_text`).
use Prim.Native.Nat.{◌+◌, ◌*◌}
use native.Mathlib.Omega.{arith}
use Rattle.list_image.specs.Laws.{front, front_length}
use Rattle.listing.proofs.Laws.{image_text, from_to, renamed}
use borrow.Author.Rules.{rules}
use Rattle.listing.proofs.put_read.Goals as goal

pub slice_bounds-put_first-end : goal.slice_bounds-put_first-end
slice_bounds-put_first-end c = search (rules, c.args.opened.now.shaped.within)

pub slice_bounds-put_first-end-3 : goal.slice_bounds-put_first-end-3
slice_bounds-put_first-end-3 c = front_length c.args.opened.now.image.now _ c.args.opened.now.shape.strings _ _ c.read_words.ensures

pub slice_bounds-put_first-end-5 : goal.slice_bounds-put_first-end-5
slice_bounds-put_first-end-5 c = front_length c.args.opened.now.image.now _ c.args.opened.now.shape.words _ _ c.read_words-2.ensures

pub slice_bounds-put_first-end-7 : goal.slice_bounds-put_first-end-7
slice_bounds-put_first-end-7 c = front_length c.args.opened.now.image.now _ c.args.opened.now.shape.erased _ _ c.read_words-3.ensures

pub put_first-requires : goal.put_first-requires
put_first-requires c = (omega (arith, front_length c.args.opened.now.image.now _ c.args.opened.now.shape.words _ _ c.read_words-2.ensures, c.requires.5), c.requires.3, c.requires.4, c.requires.6)

pub returns : goal.returns
returns c = renamed (image_text c.args.opened.now.image.now c.args.opened.now.shaped _ _ _ _ (from_to c.args.opened.now.image.now (12 + 4 * c.args.opened.now.shape.strings + 4 * c.args.opened.now.shape.words + 4 * c.args.opened.now.shape.erased) c.args.opened.now.shape.bytes) (front c.args.opened.now.image.now 12 c.args.opened.now.shape.strings _ _ c.read_words.ensures) (front c.args.opened.now.image.now (12 + 4 * c.args.opened.now.shape.strings) c.args.opened.now.shape.words _ _ c.read_words-2.ensures) (front c.args.opened.now.image.now (12 + 4 * c.args.opened.now.shape.strings + 4 * c.args.opened.now.shape.words) c.args.opened.now.shape.erased _ _ c.read_words-3.ensures)) c.put_first.ensures
