-- `sub`: the procedure that was read is the statement. Assumes nothing.
use Rattle.collect_as_clause.specs.Names.{name_at_lem}
use Rattle.collect_procedure.proofs.Reading.{some_proc}
use Rattle.collect_procedure.proofs.Does.{collects}
use Rattle.collect_procedure.proofs.sub.Goals as goal

pub procedure-requires : goal.procedure-requires
procedure-requires c = (some_proc c.requires.0.stmt c.sub_at-p.ensures, name_at_lem c.requires.1 _ c.sub_at-p.ensures.named, c.requires.3)

pub returns : goal.returns
returns c = collects c.args.scope c.sub_at-p.ensures c.procedure.ensures
