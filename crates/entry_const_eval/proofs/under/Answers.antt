-- An expression that was read, under lent rows: number 6, or the answer of `fold_const_eval`. Assumes nothing.
use Rattle.entry_const_eval.proofs.Laws.{tells_as, rows_bad, rows_fit, rows_ready, rows_fine}
use Rattle.fold_const_eval.proofs.Laws.{good}
use Rattle.entry_const_eval.proofs.under.Goals as goal

pub invariant_of-held : goal.invariant_of-held
invariant_of-held c = record { fits = rows_fit c.args.source.now.names.now c.args.source.now.words.now c.args.at c.args.rows.now c.requires.0 c.check_rows.ensures c.in-Some.is }

pub const_eval-f-requires : goal.const_eval-f-requires
const_eval-f-requires c = rows_ready c.args.source.now.names.now c.args.source.now.words.now c.args.at c.args.rows.now c.requires.0 c.check_rows.ensures c.in-Some.is (λ i. (c.type_inv.rows i).fits)

pub fold_of-requires : goal.fold_of-requires
fold_of-requires c = good c.requires.1 (rows_ready c.args.source.now.names.now c.args.source.now.words.now c.args.at c.args.rows.now c.requires.0 c.check_rows.ensures c.in-Some.is (λ i. (c.type_inv.rows i).fits)) c.const_eval-f.ensures

pub returns-in_default : goal.returns-in_default
returns-in_default c = tells_as c.refused.ensures (rows_bad c.args.source.now.names.now c.args.source.now.words.now c.args.at c.args.rows.now c.requires.0 c.check_rows.ensures c.in_default.is)

pub returns : goal.returns
returns c = rows_fine c.args.source.now.names.now c.args.source.now.words.now c.args.at c.args.rows.now c.requires.0 c.check_rows.ensures c.in-Some.is c.fold_of.ensures c.const_eval-f.ensures
