-- `redim`: each declarator. Assumes nothing.
use Rattle.collect_dim.proofs.Statements.{redim_begun, begun_flag, redim_does}
use native.Mathlib.Omega.{arith}
use Rattle.collect_dim.proofs.redim.Goals as goal

pub bounds-words-at : goal.bounds-words-at
bounds-words-at c = omega (arith, (redim_begun c.requires.0).inside)

pub flag_after-preserve-requires : goal.flag_after-preserve-requires
flag_after-preserve-requires c = begun_flag (redim_begun c.requires.0)

pub declare_all-requires : goal.declare_all-requires
declare_all-requires c = (c.requires.1, (redim_begun c.requires.0).list)

pub returns : goal.returns
returns c =
    let F = c.flag_after-preserve.ensures in
    redim_does F.past (rw F.is at c.declare_all.ensures)
