-- `dim`: SHARED, then each declarator. Assumes nothing.
use Rattle.collect_dim.proofs.Statements.{dim_begun, begun_flag, shares_fit, dim_does}
use Rattle.collect_dim.proofs.Doing.{ready_tree}
use native.Mathlib.Omega.{arith}
use Rattle.collect_dim.proofs.dim.Goals as goal

pub bounds-words-at : goal.bounds-words-at
bounds-words-at c = omega (arith, (dim_begun c.requires.0).inside)

pub flag_after-shared-requires : goal.flag_after-shared-requires
flag_after-shared-requires c = begun_flag (dim_begun c.requires.0)

pub share-t-requires : goal.share-t-requires
share-t-requires c = (c.requires.1, ready_tree (dim_begun c.requires.0).list)

pub declare_all-requires : goal.declare_all-requires
declare_all-requires c = (shares_fit (dim_begun c.requires.0).list c.share-t.ensures, (dim_begun c.requires.0).list)

pub returns : goal.returns
returns c =
    let F = c.flag_after-shared.ensures in
    dim_does F.past (rw F.is at c.share-t.ensures) c.declare_all.ensures
