-- A folded constant is entered, and else said. Assumes nothing.
use mathlib.Core.Path.{sym, subst}
use Rattle.fold_values.specs.Fold.{GoodFold}
use Rattle.collect_labels_const.proofs.Laws.{folded_value, folded_unfolded}
use Rattle.collect_labels_const.proofs.folded.Goals as goal

pub enter_value-requires : goal.enter_value-requires
enter_value-requires c = (c.requires.0.0, c.requires.1, subst GoodFold c.in-Ok.is c.requires.2)

pub returns-in-Ok : goal.returns-in-Ok
returns-in-Ok c = folded_value c.args.line c.args.name (sym c.in-Ok.is) c.requires.0.1 c.enter_value.ensures

pub returns-in-Err : goal.returns-in-Err
returns-in-Err c = folded_unfolded c.args.line c.args.name c.in-Err.why (sym c.in-Err.is) c.requires.0.0 (rw c.code_of.ensures at c.push.ensures)
