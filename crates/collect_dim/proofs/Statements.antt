-- DIM and REDIM from what their parts did. No line here knows the code. Assumes nothing.
use Prim.Native.Nat.{ℕ, ◌+◌, ◌<◌}
use native.Mathlib.Omega.{arith}
use mathlib.Core.Path.{◌≡◌, refl, sym, ap, subst, ◌∙◌}
use mathlib.Core.Bool.{Bool, true, false}
use mathlib.Core.List.{List, [], ◌∷◌, ◌++◌}
use mathlib.Core.Option.{some}
use lib.Dec.{eqb}
use lib.ListN.{length, get_or}
use Rattle.base_words.specs.Word.{word_of, pay_of}
use Rattle.tree_expr.specs.Expr.{Expr}
use Rattle.tree_expr.specs.Stands.{Wrote}
use Rattle.tree_expr.proofs.Parts.{wrote_first, wrote_left, wrote_right, pay_is}
use Rattle.tree_stmt.specs.Sorts.{Kind, sorts, number_of, many, Declarator as DeclaratorRow, dim as dim_kind, redim as redim_kind}
use Rattle.tree_stmt.specs.Tree.{Tree, one, row, word, Stmt, done, cons, over, words_t, Right}
use Rattle.tree_stmt.specs.Stands.{Stands}
use Rattle.tree_views.specs.View.{View, Dim, Redim, Declarator, view, items, is_set, declarator}
use Rattle.collect_buffers.specs.declared.Counts.{Counts}
use Rattle.collect_buffers.specs.Held.{Fit, Does}
use Rattle.collect_buffers.proofs.Compose.{then}
use Rattle.collect_definition.specs.Seen.{Seen, see}
use Rattle.collect_definition.specs.Collect.{given, statement, dim, redim}
use Rattle.collect_definition.specs.Code.{Collects}
use Rattle.collect_dim.specs.Declarators.{Past, Flagged, Ready, ReadyStmt, DeclaresAll, Shares}
use Rattle.collect_dim.proofs.Doing.{ready_tree}

-- its line, its list and the flag after it, where the words have them
pub record Leads (ws ns : List ℕ) (n at line : ℕ) (l : Tree Expr (one (many DeclaratorRow))) (x : ℕ) : Type 0 where
  pub inside : at + 1 < length ws
  pub line_is : pay_of (get_or ws at 0) ≡ line
  pub mid : ℕ
  pub there : Stands ws ns n (at + 1) l mid
  pub flag_inside : mid < length ws
  pub flag_is : pay_of (get_or ws mid 0) ≡ x

leads : (j : ℕ) {ws ns : List ℕ} {n at line end : ℕ} (l : Tree Expr (one (many DeclaratorRow))) (x : ℕ) → Wrote ws at (word_of j line ∷ (words_t l ++ (word_of 3 x ∷ []))) end → line < 16777216 → Right ns n l → x < 16777216 → Leads ws ns n at line l x
leads j l x W small r h =
    let f = wrote_first W in
    let q = wrote_first (wrote_right (words_t l) f.rest) in
    let s = wrote_left (words_t l) (word_of 3 x ∷ []) f.rest in
    record { inside = omega (arith, q.inside); line_is = ap pay_of f.is ∙ pay_is j _ small; mid = _; there = record { wrote = s; valid = r }; flag_inside = q.inside; flag_is = ap pay_of q.is ∙ pay_is 3 x h }

-- what collecting sees of it
pub record Sees (ws ns : List ℕ) (n at line : ℕ) (v : View Seen) (made : List (Declarator Seen) → Bool → View Seen) : Type 0 where
  pub list : Tree Expr (one (many DeclaratorRow))
  pub flag : ℕ
  pub leads : Leads ws ns n at line list flag
  pub is : made (items declarator (over see list)) (eqb flag 1) ≡ v

module _ {ws ns : List ℕ} {n at line end : ℕ} where
  dim_seen : (fields : Tree Expr (row (sorts dim_kind))) → Stands ws ns n at (Stmt dim_kind line fields) end → Sees ws ns n at line (view dim_kind (over see fields)) Dim
  unfolding sorts number_of words_t Right over view is_set
  dim_seen (cons l (cons (word x) done)) S = record { list = l; flag = x; leads = leads 79 l x S.wrote S.valid.0 S.valid.1.0 S.valid.1.1.0.1; is = refl }

  redim_seen : (fields : Tree Expr (row (sorts redim_kind))) → Stands ws ns n at (Stmt redim_kind line fields) end → Sees ws ns n at line (view redim_kind (over see fields)) Redim
  unfolding sorts number_of words_t Right over view is_set
  redim_seen (cons l (cons (word x) done)) S = record { list = l; flag = x; leads = leads 83 l x S.wrote S.valid.0 S.valid.1.0 S.valid.1.1.0.1; is = refl }

-- what is ready of a statement that is
pub record Begun (bytes ends ws : List ℕ) (at : ℕ) : Type 0 where
  pub inside : at + 1 < length ws
  pub list : Ready bytes ends ws (at + 1)
  pub flag_inside : {p : ℕ} → Past ws (at + 1) p → p < length ws

begun : {bytes ends ws : List ℕ} {at line : ℕ} {k : Kind} {v : View Seen} {made : List (Declarator Seen) → Bool → View Seen} (R : ReadyStmt k bytes ends ws at) → Sees ws R.any.names R.any.strings at line v made → Begun bytes ends ws at
begun {ws = ws} R S =
    let L = S.leads in
    record {
      inside = L.inside;
      list = record { marks = R.any.names; strings = R.any.strings; named = R.named; tree = S.list; end = L.mid; stands = L.there };
      flag_inside = λ P. subst (λ (m : ℕ). m < length ws) (sym (P R.any.names R.any.strings S.list L.mid L.there)) L.flag_inside;
    }

module _ {bytes ends ws : List ℕ} {at : ℕ} where
  -- of a DIM
  pub dim_begun : ReadyStmt dim_kind bytes ends ws at → Begun bytes ends ws at
  dim_begun R = begun R (dim_seen R.any.stmt.fields R.any.stmt.stands)

  -- of a REDIM
  pub redim_begun : ReadyStmt redim_kind bytes ends ws at → Begun bytes ends ws at
  redim_begun R = begun R (redim_seen R.any.stmt.fields R.any.stmt.stands)

-- its flag stands after its list
pub begun_flag : {bytes ends ws : List ℕ} {at : ℕ} → Begun bytes ends ws at → Flagged ws (at + 1)
begun_flag B = record { list = ready_tree B.list; inside = λ p P. B.flag_inside P }

-- SHARED leaves counts that fit
pub shares_fit : {bytes ends ws : List ℕ} {scope line : ℕ} {shared : Bool} {at : ℕ} {s r : Counts} {b d b' d' : List ℕ} → Ready bytes ends ws at → Shares ws scope line shared at s r b d b' d' → Fit r (length b') (length d')
shares_fit R F = (F.does [] [] [] R.marks R.strings R.tree R.end R.stands).fit

-- done for the line and the flag that the words say, it is done for the statement that stands there
seen_does : {ws : List ℕ} (bytes ends erased : List ℕ) (scope : ℕ) {at p : ℕ} {s r : Counts} {b d b' d' : List ℕ} → Past ws (at + 1) p → {ns : List ℕ} {n line : ℕ} {v : View Seen} {made : List (Declarator Seen) → Bool → View Seen} (S : Sees ws ns n at line v made)
    → Does (λ N D. statement (given (some N) (some D) bytes ends erased) scope (pay_of (get_or ws at 0)) (made (items declarator (over see S.list)) (eqb (pay_of (get_or ws p 0)) 1))) s r b d b' d'
    → Does (λ N D. statement (given (some N) (some D) bytes ends erased) scope line v) s r b d b' d'
seen_does {ws} bytes ends erased scope {at} {p} {s} {r} {b} {d} {b'} {d'} P {ns} {n} {line} {v} {made} S F =
    let L = S.leads in
    let e : pay_of (get_or ws p 0) ≡ S.flag = ap (λ (m : ℕ). pay_of (get_or ws m 0)) (P ns n S.list L.mid L.there) ∙ L.flag_is in
    subst (λ (w : View Seen). Does (λ N D. statement (given (some N) (some D) bytes ends erased) scope line w) s r b d b' d') (ap (λ (x : ℕ). made (items declarator (over see S.list)) (eqb x 1)) e ∙ S.is)
    (subst (λ (l : ℕ). Does (λ N D. statement (given (some N) (some D) bytes ends erased) scope l (made (items declarator (over see S.list)) (eqb (pay_of (get_or ws p 0)) 1))) s r b d b' d') L.line_is F)

module _ {ws bytes ends erased : List ℕ} {scope at p : ℕ} {s r : Counts} {b d b' d' : List ℕ} (P : Past ws (at + 1) p) where
  -- DIM: SHARED, then each declarator
  pub dim_does : {t : Counts} {b₁ d₁ : List ℕ} → Shares ws scope (pay_of (get_or ws at 0)) (eqb (pay_of (get_or ws p 0)) 1) (at + 1) s t b d b₁ d₁
      → DeclaresAll ws bytes ends erased scope (pay_of (get_or ws at 0)) false false (at + 1) t r b₁ d₁ b' d'
      → (ns : List ℕ) (n : ℕ) → Collects ns n dim_kind ws bytes ends erased scope at s r b d b' d'
  unfolding statement dim
  dim_does F G ns n = record {
    does = λ line fields end S.
        let q = dim_seen fields S in
        let L = q.leads in
        seen_does bytes ends erased scope P q (then (F.does bytes ends erased ns n q.list L.mid L.there) (G.does ns n q.list L.mid L.there));
  }

  -- REDIM: each declarator, by its PRESERVE flag
  pub redim_does : DeclaresAll ws bytes ends erased scope (pay_of (get_or ws at 0)) true (eqb (pay_of (get_or ws p 0)) 1) (at + 1) s r b d b' d'
      → (ns : List ℕ) (n : ℕ) → Collects ns n redim_kind ws bytes ends erased scope at s r b d b' d'
  unfolding statement redim
  redim_does G ns n = record {
    does = λ line fields end S.
        let q = redim_seen fields S in
        let L = q.leads in
        seen_does bytes ends erased scope P q (G.does ns n q.list L.mid L.there);
  }
