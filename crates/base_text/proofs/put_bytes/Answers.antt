-- put_bytes: the part from 0 to the end is the whole.
use Rattle.base_text.specs.Laws.{same, whole}
use Rattle.base_text.proofs.put_bytes.Goals as goal

pub returns : goal.returns
returns c = same (whole c.args.s.now) c.put_part.ensures
