-- read_words: after i turns the first i words are the image's.
use Rattle.std.proofs.Common.{◌≡◌, refl, arith}
use lib.ListN.{length-set}
use Rattle.list_image.specs.Image.{words_at}
use Rattle.list_image.proofs.Laws.{read_more}
use Rattle.list_image.proofs.read_words.Goals as goal

pub loop-i-init : goal.loop-i-init
unfolding words_at
loop-i-init c = record { long = refl; read = refl }

pub loop-i-preserved : goal.loop-i-preserved
loop-i-preserved c = record {
  long = simp length-set c.loop-i.invariant.long;
  read = rw c.word.ensures (read_more c.args.image.now c.args.from c.loop-i.i c.args.words.now c.loop-i.words (omega arith) c.loop-i.invariant.read);
}

pub returns : goal.returns
returns c = (let e : c.loop-i.i ≡ c.args.n = omega arith in rw e at c.loop-i.invariant.read)
