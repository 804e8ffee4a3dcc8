-- lay_pair: what stands side by side in the table is the pair (`pair_laid`), and the table is the definition's, by computation.
use Rattle.std.proofs.Common.{◌≡◌, refl, arith}
use Rattle.base_text.specs.Text.{digit, hex_pairs}
use Rattle.base_text.specs.Laws.{pair_laid}
use Rattle.base_text.specs.declared.TheConstants.{PAIRS}
use Rattle.base_text.proofs.lay_pair.Goals as goal

table : PAIRS ≡ hex_pairs 256
unfolding hex_pairs digit
table = refl

pub returns : goal.returns
returns c = rw c.from-k.ensures (pair_laid c.args.out.now PAIRS c.args.at c.args.b (omega arith) table)
