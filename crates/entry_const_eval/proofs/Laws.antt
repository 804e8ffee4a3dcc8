-- What the entry's answers tell, by the way that they took. No line here knows the code. Assumes nothing.
use Prim.Native.Nat.{ℕ, ◌*◌, ◌≤◌}
use mathlib.Core.Path.{◌≡◌, refl, sym, ap, ◌∙◌, subst}
use mathlib.Core.List.{List}
use Rattle.base_words.specs.Sizes.{max_depth}
use Rattle.base_words.specs.Told.{Told, gives, after}
use Rattle.base_words.specs.Refusals.{refused}
use Rattle.base_words.specs.declared.Refusal.{Refusal}
use Rattle.base_words.specs.declared.Refusal.TheVariants.{Rows as RowsRefused}
use Rattle.tree_expr.specs.Reader.{expr_at}
use Rattle.tree_expr.specs.Answer.{step_of, refusal_of, Step}
use Rattle.tree_expr.specs.declared.Misread.{Misread}
use Rattle.tree_expr.specs.declared.Cursor.{Cursor}
use Rattle.tree_expr.proofs.Complete.{stands}
use Rattle.entry_read.specs.Answered.{answer_read, answer_wrong, answer_deep}
use lib.ListN.{length}
use Rattle.rows_table.specs.Rows.{Row, width, rows_of}
use Rattle.rows_table.specs.Images.{holds_fits}
use Rattle.rows_runs.specs.Laws.{holds_keeps}
use Rattle.rows_lent.specs.Lent.{checked, told as told_rows, lent_rows, Lent}
use Rattle.rows_lent.specs.LentLaws.{checked_sound}
use Rattle.fold_const_eval.specs.ConstEval.{const_eval}
use Rattle.fold_const_eval.specs.Evaluates.{fold_of, Ready, Evaluates as Folds}
use Rattle.fold_const_eval.specs.EvalLaws.{Words32}
use Rattle.fold_const_eval.specs.RowLaws.{strings, lent_consts}
use Rattle.fold_const_eval.specs.declared.Folded.{Folded as Answered}
use Rattle.entry_const_eval.specs.Outcome.{outcome_of}
use Rattle.entry_const_eval.specs.Evaluate.{Past, under_of, read_under, eval_of, told_as, moved_of, Tells, WasRead}
use Rattle.entry_const_eval.specs.declared.Evaluation.{Evaluation}
use Rattle.std.specs.Prelude.{Ok, Err, Option, None, Some}
use Rattle.tree_expr.specs.declared.Misread.TheVariants.{Wrong, Deep}
use Rattle.fold_values.specs.Value.{Fold}

-- ---- a refusal leaves the place

-- so it is told
pub refused_tells : (at : ℕ) (r : Refusal) → Tells at (record { answer = Err r; at = at }) (refused r)
unfolding told_as moved_of refused
refused_tells at r = record { told = refl; moved = refl }

-- what is told, by another name of the definition
pub tells_as : {at : ℕ} {r : Evaluation} {d d' : Told Past} → Tells at r d → d ≡ d' → Tells at r d'
tells_as {at} {r} t e = subst (Tells at r) e t

-- the place goes by what is told
pub moved_by : {at : ℕ} {r : Evaluation} {d : Told Past} → Tells at r d → r.at ≡ moved_of at (told_as r.at r.answer)
moved_by {at} t = t.moved ∙ ap (moved_of at) (sym t.told)

module _ (ns ws : List ℕ) (at : ℕ) (buf : List ℕ) where
  -- ---- what reading gave

  read_is : (R : WasRead ns ws at) → eval_of ns ws at buf ≡ under_of ns buf R.expr R.end
  unfolding eval_of read_under
  read_is R = ap (read_under ns buf) R.reads

  -- an expression was read
  pub was_read : {s : Step} {c : Cursor} → s ≡ step_of (expr_at ws (strings ns) max_depth at) → s ≡ Ok c → WasRead ns ws at
  was_read {c = c} e q = let r = answer_read (expr_at ws (strings ns) max_depth at) e q in record { expr = r.tree; end = c.at; reads = r.is }

  -- a wrong word: 2; one too deep: 3
  pub misread_is : {s : Step} (m : Misread) → s ≡ step_of (expr_at ws (strings ns) max_depth at) → s ≡ Err m → refused (refusal_of m) ≡ eval_of ns ws at buf
  unfolding eval_of read_under refused
  misread_is (Wrong p) e q = rw (answer_wrong (expr_at ws (strings ns) max_depth at) e q) refl
  misread_is (Deep p) e q = rw (answer_deep (expr_at ws (strings ns) max_depth at) e q) refl

  -- ---- under the rows

  -- rows that are no lent table: 6
  pub rows_bad : WasRead ns ws at → {k : Option ℕ} → k ≡ checked ns buf → k ≡ None → refused RowsRefused ≡ eval_of ns ws at buf
  unfolding under_of lent_rows after refused
  rows_bad R e q = sym (read_is R ∙ ap (λ (c : Option ℕ). after (told_rows buf c) (λ (rows : List Row). gives (record { outcome = outcome_of (const_eval rows R.expr); end = R.end }))) (sym e ∙ q))

  module _ (R : WasRead ns ws at) {k : Option ℕ} {n : ℕ} (e : k ≡ checked ns buf) (q : k ≡ Some n) where
    lent : Lent ns (rows_of n buf) n buf
    lent = checked_sound ns n buf (sym e ∙ q)

    -- a lent table's rows fit
    pub rows_fit : n * width ≤ length buf
    rows_fit = holds_fits lent.holds.filled

    -- a lent table: the expression may be folded
    pub rows_ready : Words32 buf → Ready ws at buf n
    rows_ready W = record { strings = strings ns; expr = R.expr; end = R.end; stands = stands max_depth R.reads; rows = rows_of n buf; holds = holds_keeps lent.holds; consts = lent_consts lent W }

    -- then what it folds to is told, with the place past it
    pub rows_fine : {f : Answered} {g : Fold} → g ≡ fold_of f → Folds ws at buf n f → Tells at (record { answer = Ok g; at = f.next }) (eval_of ns ws at buf)
    unfolding told_as moved_of under_of lent_rows after
    rows_fine {f} {g} p E =
        let i = E (strings ns) R.expr R.end (stands max_depth R.reads) (rows_of n buf) (holds_keeps lent.holds) in
        let d : eval_of ns ws at buf ≡ gives (record { outcome = outcome_of (const_eval (rows_of n buf) R.expr); end = R.end }) =
        read_is R ∙ ap (λ (c : Option ℕ). after (told_rows buf c) (λ (rows : List Row). gives (record { outcome = outcome_of (const_eval rows R.expr); end = R.end }))) (sym e ∙ q) in
        tells_as (record { told = rw (p, i.answer, i.past) refl; moved = i.past }) (sym d)
