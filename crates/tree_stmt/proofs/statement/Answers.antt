-- `statement`: a head, and then its row. Assumes nothing.
use Prim.Native.Nat.{◌≤◌, ◌<◌}
use mathlib.Core.Path.{refl, sym, ap, ◌∙◌}
use native.Mathlib.Omega.{arith}
use lib.ListN.{get_or}
use Rattle.std.specs.Prelude.{Err}
use Rattle.base_words.specs.Word.{kind_of}
use Rattle.tree_stmt.specs.Frames.{failed}
use Rattle.tree_stmt.proofs.Steps.{stmt_arm, head_end, head_none, head_ok, stmt_bad, stmt_deep, stmt_go}
use Rattle.tree_stmt.proofs.Frames.{failed_goes, row_goes}
use Rattle.tree_stmt.proofs.statement.Goals as goal

pub returns-in_err-k : goal.returns-in_err-k
returns-in_err-k c =
    let ended = c.in_err-k.ensures.ended in
    λ ns n. failed_goes _ ns n (sym (stmt_arm _ ns n _ _ _ (stmt_bad _ ns n _ _ _ (head_end _ _ ended.0))) ∙ sym (ap Err ended.1)) c.from_residual.ensures.1

pub returns-in_default : goal.returns-in_default
returns-in_default c =
    let here = c.in_ok-k.ensures.here in
    let none : 64 ≤ kind_of (get_or c.args.words.now c.args.c.at 0) → kind_of (get_or c.args.words.now c.args.c.at 0) < 118 → ⊥ = λ a b. grind arith in
    λ ns n. failed (sym (stmt_arm _ ns n _ _ _ (stmt_bad _ ns n _ _ _ (head_none _ _ here.0 none))))

pub returns-in_default-2 : goal.returns-in_default-2
returns-in_default-2 c =
    let here = c.in_ok-k.ensures.here in
    let none : 64 ≤ kind_of (get_or c.args.words.now c.args.c.at 0) → kind_of (get_or c.args.words.now c.args.c.at 0) < 118 → ⊥ = λ a b. grind arith in
    λ ns n. failed (sym (stmt_arm _ ns n _ _ _ (stmt_bad _ ns n _ _ _ (head_none _ _ here.0 none))))

pub returns-then-left-eq0 : goal.returns-then-left-eq0
returns-then-left-eq0 c =
    let here = c.in_ok-k.ensures.here in
    λ ns n. failed (sym (stmt_arm _ ns n _ _ _ (stmt_deep _ ns n _ _ _ _ c.if-left-eq0.true (head_ok _ _ here.0 (omega arith) (omega arith)))))

pub returns-else-left-eq0 : goal.returns-else-left-eq0
returns-else-left-eq0 c =
    let here = c.in_ok-k.ensures.here in
    let row = rw here.1 at c.one_row.ensures in
    λ ns n. row_goes _ ns n row (sym (stmt_arm _ ns n _ _ _ (stmt_go _ ns n _ _ c.if-left-eq0.false here.0 (omega arith) (omega arith) refl))) (omega arith) (omega arith)
