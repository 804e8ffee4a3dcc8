-- put_byte: one store, or none past the end.
use mathlib.Core.Path.{sym}
use native.Mathlib.Omega.{arith}
use lib.Seq.{set_out}
use Rattle.base_text.proofs.put_byte.Goals as goal

pub returns : goal.returns
returns c = record { now = sym (set_out c.args.out.now c.args.at c.args.b (omega arith)); end = omega arith }
