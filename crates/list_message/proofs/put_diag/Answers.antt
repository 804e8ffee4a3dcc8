-- put_diag: the rendered template between `D line` and the line's end is what is said of the diagnostic (`all_said`).
use Rattle.list_message.proofs.Laws.{all_said}
use Rattle.base_text.specs.Text.{ascii}
use Rattle.base_text.specs.Laws.{then, same}
use Rattle.list_message.proofs.put_diag.Goals as goal

pub returns : goal.returns
unfolding ascii
returns c = same (all_said c.args.strings.now.bytes.now c.args.strings.now.ends.now c.args.d) (then c.put_byte-next.ensures (then c.put_byte-next-2.ensures (then c.put_decimal-next.ensures (then c.put_byte-next-3.ensures (then c.put_message-next.ensures c.put_byte.ensures)))))
