-- `with_marks`: one mark after the other. Assumes nothing.
use Rattle.collect_procedure.proofs.Does.{marks_enter}
use Rattle.collect_procedure.proofs.with_marks.Goals as goal

pub returns : goal.returns
returns c = λ ws. marks_enter c.mark_if-t.ensures c.mark_if.ensures
