-- put_full: every image has room in these buffers, and the parts read are the parts of the image, so that the text is the listing (`image_text`).
use mathlib.Core.Path.{refl}
use Prim.Native.Nat.{◌+◌, ◌*◌}
use native.Mathlib.Omega.{arith}
use Rattle.base_text.specs.Laws.{same}
use Rattle.list_image.specs.Laws.{front, front_length}
use Rattle.listing.proofs.Laws.{image_text, from_to, made}
use Rattle.listing.proofs.put_full.Goals as goal

pub slice_bounds-put_all-end-2 : goal.slice_bounds-put_all-end-2
slice_bounds-put_all-end-2 c = front_length c.args.opened.now.image.now _ c.args.opened.now.shape.strings _ _ c.read_words.ensures

pub slice_bounds-put_all-end-3 : goal.slice_bounds-put_all-end-3
slice_bounds-put_all-end-3 c = front_length c.args.opened.now.image.now _ c.args.opened.now.shape.words _ _ c.read_words-2.ensures

pub slice_bounds-put_all-end-4 : goal.slice_bounds-put_all-end-4
slice_bounds-put_all-end-4 c = front_length c.args.opened.now.image.now _ c.args.opened.now.shape.erased _ _ c.read_words-3.ensures

pub put_all-requires : goal.put_all-requires
put_all-requires c = (omega (arith, front_length c.args.opened.now.image.now _ c.args.opened.now.shape.words _ _ c.read_words-2.ensures, c.args.opened.now.shaped.words_fit), refl, refl, made 12288 12288)

pub returns : goal.returns
returns c = same (image_text c.args.opened.now.image.now c.args.opened.now.shaped _ _ _ _ (from_to c.args.opened.now.image.now (12 + 4 * c.args.opened.now.shape.strings + 4 * c.args.opened.now.shape.words + 4 * c.args.opened.now.shape.erased) c.args.opened.now.shape.bytes) (front c.args.opened.now.image.now 12 c.args.opened.now.shape.strings _ _ c.read_words.ensures) (front c.args.opened.now.image.now (12 + 4 * c.args.opened.now.shape.strings) c.args.opened.now.shape.words _ _ c.read_words-2.ensures) (front c.args.opened.now.image.now (12 + 4 * c.args.opened.now.shape.strings + 4 * c.args.opened.now.shape.words) c.args.opened.now.shape.erased _ _ c.read_words-3.ensures)) c.put_all.ensures
