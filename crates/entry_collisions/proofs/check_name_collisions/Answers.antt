-- The entry: numbers 5 and 1, or what comes behind them. Assumes nothing.
use lib.Seq.{length-take-le}
use lib.ListN.{length}
use mathlib.Core.Path.{sym}
use native.Mathlib.Omega.{arith}
use Rattle.entry_collisions.proofs.EntryLaws.{handed, entry_shut, entry_open}
use Rattle.entry_collisions.proofs.check_name_collisions.Goals as goal

pub slice_bounds-under-end : goal.slice_bounds-under-end
slice_bounds-under-end c = sym (length-take-le (length c.args.ends.now) c.names_of-names.result (omega (arith, c.in_ok-passes.ensures.passed.1, c.names_of-names.ensures.long)))

pub under-requires : goal.under-requires
under-requires c = record { strings = c.in_ok-passes.ensures.passed.0; names = c.names_of-names.ensures.first }

pub returns-in_err-passes : goal.returns-in_err-passes
returns-in_err-passes c = rw (handed c.from_residual.ensures.1) (entry_shut c.in_err-passes.ensures.told)

pub returns : goal.returns
returns c = entry_open c.in_ok-passes.ensures.told c.under.ensures
