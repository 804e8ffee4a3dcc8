-- put_name: a string goes from the end before it to its own.
use Rattle.list_message.proofs.Laws.{named}
use Rattle.base_text.specs.Laws.{same}
use Rattle.list_message.proofs.put_name.Goals as goal

pub returns : goal.returns
returns c = same (named c.args.strings.now.bytes.now c.args.strings.now.ends.now c.args.k c.saturating_sub.result c.end_of.result c.end_of-2.result c.saturating_sub.ensures c.end_of.ensures c.end_of-2.ensures) c.put_part.ensures
