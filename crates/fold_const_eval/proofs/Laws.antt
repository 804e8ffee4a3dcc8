-- The fold of the expression at a place, by the kind of its head: from its parts, the node. No line here knows the code. Assumes nothing.
use Prim.Native.Nat.{ℕ, ◌+◌, ◌<◌}
use mathlib.Core.Path.{◌≡◌, refl, sym, ap, ap₂, ◌∙◌, subst}
use mathlib.Core.Bool.{Bool, false}
use mathlib.Core.List.{List}
use native.Mathlib.Omega.{arith}
use borrow.Author.Tests.{eq-eqb, ne_eqb}
use lib.ListN.{length, get_or}
use Rattle.base_words.specs.Word.{kind_of, pay_of, pick}
use Rattle.tree_expr.specs.Expr.{Strings, Expr, Lit, Var, Elem, Unary, Binary, Call, Field, Paren, kind_e}
use Rattle.tree_expr.specs.Stands.{Stands}
use Rattle.tree_expr.proofs.Laws.{name_got, got_17}
use Rattle.tree_expr.proofs.Nodes.{node, within, kind_of_lem, in_binary, in_paren, in_unary}
use Rattle.tree_skip.specs.Shape.{SomeExpr}
use Rattle.rows_table.specs.Rows.{Row}
use Rattle.rows_runs.specs.Runs.{Keeps}
use Rattle.fold_values.specs.Fold.{GoodFold, negate_of, binary_of}
use Rattle.fold_values.proofs.FoldLaws.{RowFold, row_good, negate_row, binary_row}
use Rattle.fold_values.specs.ValueLaws.{value_words}
use Rattle.fold_values.specs.Value.{literal_kind, low_of, high_of, Fold}
use Rattle.fold_values.specs.declared.Value.{Value}
use Rattle.std.proofs.lemmas.Bool.{false≢true}
use Rattle.fold_const_eval.specs.ConstEval.{constant, const_eval}
use Rattle.fold_const_eval.specs.Evaluates.{read_as, fold_of, RowSome, LiteralAt, Ready, Evaluates, EvaluatesAlone, Past, is_value}
use Rattle.fold_const_eval.specs.EvalLaws.{Words32, const_row_lem}
use Rattle.fold_const_eval.specs.declared.Folded.{Folded}
use Rattle.std.specs.Prelude.{Result, Ok, Err, IsErr}
use Rattle.fold_values.specs.declared.Unfolded.{Unfolded}
use Rattle.fold_values.specs.declared.ConstWords.{ConstWords}
use Rattle.fold_values.specs.declared.Unfolded.TheVariants.{NotConstant}

-- ---- answers as words

-- words that are no value are the answer that they are
pub no_value : (words : Result ConstWords Unfolded) → IsErr words → is_value (read_as words) ≡ false
no_value (Ok w) h = absurd (false≢true h)
no_value (Err e) h = refl

-- a good answer, and its negation and what an operator makes of two, which a CONST row may hold
pub some_good : {f : Fold} → RowSome f → GoodFold f
some_good {f} S = row_good S.strings f S.row

-- a negated fold may stand in a CONST row where the fold may
pub some_negated : {f g : Fold} → g ≡ negate_of f → RowSome f → RowSome g
some_negated {f} {g} e S = record { strings = S.strings; row = subst (RowFold S.strings) (sym e) (negate_row S.strings f S.row) }

-- so may the fold of any operator
pub some_binary : (op : ℕ) (l r : Fold) {g : Fold} → g ≡ binary_of op l r → RowSome g
some_binary op l r {g} e = record { strings = 0; row = subst (RowFold 0) (sym e) (binary_row 0 op l r) }

-- the words of a value are the answer that it is
pub value_laid : {f : Fold} (v : Value) (w : ConstWords) → f ≡ Ok v → RowSome f → (w.kind ≡ literal_kind v) × (w.low ≡ low_of v) × (w.high ≡ high_of v) → read_as (Ok w) ≡ f
value_laid {f} v w e S q =
    let R = subst (RowFold S.strings) e S.row in
    ap Ok (rw (q.0, q.1, q.2) (value_words S.strings v R)) ∙ sym e

-- ---- what stands inside a node

record InVar (ws : List ℕ) (at : ℕ) (e : Expr) (end : ℕ) : Type 0 where
  is : e ≡ Var (pay_of (get_or ws (at + 1) 0))
  to : at + 2 ≡ end

in_var : {ws : List ℕ} {n : Strings} {at : ℕ} {e : Expr} {end : ℕ} → kind_of (get_or ws at 0) ≡ 17 → Stands ws n at e end → InVar ws at e end
in_var {ws} {n} {at} {e} {end} k s =
    let v = got_17 k (node s).body in
    let L = name_got v.reads in
    record { is = v.is ∙ ap Var L.is; to = omega (arith, L.to) }

-- the left side of a binary operator, two words in
left_at : {ws : List ℕ} {n : Strings} (at : ℕ) {m : ℕ} {e : Expr} → Stands ws n (at + 1 + 1) e m → Stands ws n (at + 2) e m
left_at {ws} {n} at {m} {e} s =
    let p : at + 1 + 1 ≡ at + 2 = omega arith in
    rw p at s

-- ---- what is ready at a place is ready in its parts, and its answer is good

module _ {ws : List ℕ} {at : ℕ} {buf : List ℕ} {count : ℕ} where
  -- an expression stands there
  pub some_expr : Ready ws at buf count → SomeExpr ws at
  some_expr R = record { strings = R.strings; expr = R.expr; end = R.end; stands = R.stands }

  -- where the head is a literal's, one stands there
  pub literal_at_lem : Ready ws at buf count → kind_of (get_or ws at 0) ≡ 16 → LiteralAt ws at
  literal_at_lem R k = record { some = some_expr R; kind = k }

  -- an expression of the same strings, elsewhere
  ready : {m : ℕ} (R : Ready ws at buf count) {e : Expr} {end : ℕ} → Stands ws R.strings m e end → Ready ws m buf count
  ready R {e} {end} s = record { strings = R.strings; expr = e; end = end; stands = s; rows = R.rows; holds = R.holds; consts = R.consts }

  -- and so may the answer
  pub row : Words32 ws → Ready ws at buf count → {r : Folded} → Evaluates ws at buf count r → RowSome (fold_of r)
  row W R {r} E =
      let a = (E _ _ _ R.stands R.rows R.holds).answer in
      record { strings = R.strings.count; row = subst (RowFold R.strings.count) (sym a) (const_row_lem W R.consts R.stands) }

  -- its answer is good
  pub good : Words32 ws → Ready ws at buf count → {r : Folded} → Evaluates ws at buf count r → GoodFold (fold_of r)
  good W R {r} E = some_good (row W R E)

  -- the place moves
  pub moves : Ready ws at buf count → {r : Folded} → Evaluates ws at buf count r → at < r.next
  moves R {r} E = omega (arith, (within R.stands).moves, (E _ _ _ R.stands R.rows R.holds).past)

  -- the place is within the words
  pub here : Ready ws at buf count → at < length ws
  here R = let w = within R.stands in omega (arith, w.moves, w.inside)

-- ---- the arms, in the order of the match

module _ {ws : List ℕ} {at : ℕ} {buf : List ℕ} {count : ℕ} where
  -- what is so without rows is so with them
  pub alone : {r : Folded} → EvaluatesAlone ws at r → Evaluates ws at buf count r
  alone E n e end s rows h = E n e end s rows

  -- a name
  pub name_fits : kind_of (get_or ws at 0) ≡ 17 → Ready ws at buf count → at + 1 < length ws
  name_fits k R = let v = in_var k R.stands in omega (arith, v.to, R.stands.wrote.inside)

  -- by the CONST row of the name
  pub name_is : kind_of (get_or ws at 0) ≡ 17 → {r : Folded} → ((rows : List Row) → Keeps rows count buf → fold_of r ≡ constant rows (pay_of (get_or ws (at + 1) 0))) × (r.next ≡ at + 2) → Evaluates ws at buf count r
  unfolding const_eval
  name_is k F n e end s rows h = let v = in_var k s in record { answer = F.0 rows h ∙ sym (ap (const_eval rows) v.is); past = F.1 ∙ v.to }

  -- a unary operator
  module _ (k : kind_of (get_or ws at 0) ≡ 19) where
    -- its operand is ready
    pub operand : Ready ws at buf count → Ready ws (at + 2) buf count
    operand R = ready R (in_unary k R.stands).inner

    -- minus: the operand's fold, negated
    pub negated_is : pay_of (get_or ws (at + 1) 0) ≡ 0 → {a r : Folded} → Evaluates ws (at + 2) buf count a → (fold_of r ≡ negate_of (fold_of a)) × (r.next ≡ a.next) → Evaluates ws at buf count r
    unfolding const_eval
    negated_is z {a} {r} E q n e end s rows h =
        let v = in_unary k s in
        let i = E n v.arg end v.inner rows h in
        record { answer = q.0 ∙ ap negate_of i.answer ∙ sym (ap (const_eval rows) v.is ∙ ap (λ (b : Bool). pick b (negate_of (const_eval rows v.arg)) (Err NotConstant)) (eq-eqb _ _ z)); past = q.1 ∙ i.past }

    -- NOT: not constant, and past it
    pub not_is : (pay_of (get_or ws (at + 1) 0) ≡ 0 → ⊥) → {r : Folded} → (fold_of r ≡ (Err NotConstant)) × Past ws at r.next → Evaluates ws at buf count r
    unfolding const_eval
    not_is z {r} q n e end s rows h =
        let v = in_unary k s in
        record { answer = q.0 ∙ sym (ap (const_eval rows) v.is ∙ ap (λ (b : Bool). pick b (negate_of (const_eval rows v.arg)) (Err NotConstant)) (ne_eqb _ _ z)); past = q.1 n e end s }

  -- a binary operator
  module _ (k : kind_of (get_or ws at 0) ≡ 20) where
    -- its left side is ready
    pub left_side : Ready ws at buf count → Ready ws (at + 2) buf count
    left_side R = ready R (left_at at (in_binary k R.stands).left)

    module _ {l : Folded} (L : Evaluates ws (at + 2) buf count l) where
      -- and so is its right side, after the left
      pub right_side : Ready ws at buf count → Ready ws l.next buf count
      right_side R =
          let v = in_binary k R.stands in
          let p : l.next ≡ v.mid = (L _ _ _ (left_at at v.left) R.rows R.holds).past in
          let s : Stands ws R.strings l.next v.rhs R.end = rw p v.right in
          ready R s

      -- the left side's failure decides
      pub failed_is : is_value (fold_of l) ≡ false → {r : Folded} → (fold_of r ≡ fold_of l) × Past ws l.next r.next → Evaluates ws at buf count r
      unfolding const_eval binary_of
      failed_is f {r} q n e end s rows h =
          let v = in_binary k s in
          let i = L n v.lhs v.mid (left_at at v.left) rows h in
          let x : const_eval rows e ≡ binary_of v.op (const_eval rows v.lhs) (const_eval rows v.rhs) = ap (const_eval rows) v.is in
          record {
            answer = q.0 ∙ sym (x ∙ ap (λ (g : Fold). binary_of v.op g (const_eval rows v.rhs)) (sym i.answer) ∙ stops v.op (fold_of l) (const_eval rows v.rhs) f);
            past = q.1 n v.rhs end (rw i.past v.right);
          }
        where
          stops : (op : ℕ) (f g : Fold) → is_value f ≡ false → binary_of op f g ≡ f
          stops op (Ok v) g e = let z : ◌≡◌ {A = ℕ} 0 1 = cc in absurd (omega arith)
          stops op (Err x) g e = refl

      -- both folds, by the operator
      pub combined_is : {m r : Folded} → Evaluates ws l.next buf count m → (fold_of r ≡ binary_of (pay_of (get_or ws (at + 1) 0)) (fold_of l) (fold_of m)) × (r.next ≡ m.next) → Evaluates ws at buf count r
      unfolding const_eval
      combined_is {m} {r} M q n e end s rows h =
          let v = in_binary k s in
          let i = L n v.lhs v.mid (left_at at v.left) rows h in
          let j = M n v.rhs end (rw i.past v.right) rows h in
          record {
            answer = q.0 ∙ ap₂ (binary_of (pay_of (get_or ws (at + 1) 0))) i.answer j.answer ∙ sym (ap (const_eval rows) v.is ∙ ap (λ (o : ℕ). binary_of o (const_eval rows v.lhs) (const_eval rows v.rhs)) v.op_is);
            past = q.1 ∙ j.past;
          }

  -- parentheses change nothing
  module _ (k : kind_of (get_or ws at 0) ≡ 23) where
    -- what stands in them is ready
    pub inner : Ready ws at buf count → Ready ws (at + 1) buf count
    inner R = ready R (in_paren k R.stands).inner

    -- and its fold is the whole's
    pub paren_is : {r : Folded} → Evaluates ws (at + 1) buf count r → Evaluates ws at buf count r
    unfolding const_eval
    paren_is E n e end s rows h =
        let v = in_paren k s in
        let i = E n v.arg end v.inner rows h in
        record { answer = i.answer ∙ sym (ap (const_eval rows) v.is); past = i.past }

  -- elements, calls and fields
  pub other_is : (kind_of (get_or ws at 0) ≡ 16 → ⊥) → (kind_of (get_or ws at 0) ≡ 17 → ⊥) → (kind_of (get_or ws at 0) ≡ 19 → ⊥) → (kind_of (get_or ws at 0) ≡ 20 → ⊥) → (kind_of (get_or ws at 0) ≡ 23 → ⊥)
      → {r : Folded} → (fold_of r ≡ (Err NotConstant)) × Past ws at r.next → Evaluates ws at buf count r
  unfolding const_eval kind_e
  other_is a b c d f {r} q n e end s rows h = record { answer = q.0 ∙ go e (kind_of_lem s); past = q.1 n e end s }
    where
      go : (e : Expr) → kind_of (get_or ws at 0) ≡ kind_e e → (Err NotConstant) ≡ const_eval rows e
      go (Lit l) p = absurd (a p)
      go (Var x) p = absurd (b p)
      go (Elem x es) p = refl
      go (Unary o e) p = absurd (c p)
      go (Binary o l r) p = absurd (d p)
      go (Call x es) p = refl
      go (Field e x) p = refl
      go (Paren e) p = absurd (f p)
