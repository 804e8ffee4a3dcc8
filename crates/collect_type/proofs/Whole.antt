-- A TYPE from its parts: the two passes are the definition's fields, and with the two diagnostics before them the statement. Assumes nothing.
use Prim.Native.Nat.{ℕ, ◌+◌, ◌<◌}
use mathlib.Core.Path.{◌≡◌, refl, sym, ap, ◌∙◌, subst}
use mathlib.Core.Bool.{Bool, true, not}
use mathlib.Core.List.{List, [], append-nil}
use mathlib.Core.Option.{some}
use native.Mathlib.Omega.{arith}
use lib.Dec.{eqb}
use lib.ListN.{length, get_or}
use Rattle.base_words.specs.Word.{pay_of}
use Rattle.tree_expr.specs.Expr.{Expr}
use Rattle.tree_expr.proofs.Parts.{wrote_first, pay_is}
use Rattle.tree_stmt.specs.Sorts.{FieldDecl as FieldRow, type_def as type_kind, sorts, number_of}
use Rattle.tree_stmt.specs.Tree.{Tree, row as one_row, rows as many_rows, word, list, done, cons, Stmt, count, words_t, Right, over}
use Rattle.tree_stmt.specs.Stands.{Stands}
use Rattle.tree_views.specs.View.{FieldDecl, rows_of, items, field_decl, TypeDef, view}
use Rattle.collect_as_clause.specs.Over.{field_rows_over}
use Rattle.rows_table.specs.Rows.{Row, find, remove}
use Rattle.rows_runs.specs.Runs.{Keeps}
use Rattle.rows_lent.specs.RuleLaws.{name_below}
use Rattle.rows_kinds.specs.Kinds.{entry_key, has, row_word, type_row}
use Rattle.collect_buffers.specs.State.{State, running, stopped, when, asking, push}
use Rattle.collect_buffers.specs.declared.Counts.{Counts}
use Rattle.collect_buffers.specs.Held.{Fit, Held, Does, Notes, Rows, changing, entering, noting}
use Rattle.collect_buffers.proofs.Compose.{then, same, notes_does, asked, stays_asking, stays_when, stays_push}
use Rattle.collect_definition.specs.Diagnostics.{type_defined, type_inside}
use Rattle.collect_definition.specs.Seen.{see}
use Rattle.collect_definition.specs.Collect.{given, fields, type_def, statement}
use Rattle.collect_definition.specs.Code.{CollectsAny}
use Rattle.collect_type.specs.Types.{SomeType, SomeFields, checks, kept_fields, Checks, Enters, Defines}
use Rattle.collect_type.specs.declared.Kept.{Kept}
use Rattle.collect_type.proofs.Laws.{same_none, Put, fields_split, checks_rows}
use Rattle.collect_type.proofs.Alike.{put_does}
use Rattle.collect_type.proofs.Walk.{rows_small}

-- what is asked of the rows before anything is done
pub record Asked : Type 0 where
  pub yes : Bool
  pub line : ℕ

-- ---- the fields

module _ {ws : List ℕ} {at n line owner : ℕ} {s : Counts} {b d : List ℕ} where
  -- in a stopped run nothing is done
  pub defines_stopped : Fit s (length b) (length d) → (s.stop ≡ 0 → ⊥) → Defines ws at n line owner s s b d b d
  defines_stopped fit h = record { does = λ ns m v end S e bytes ends erased. record { fit = fit; after = by (rows_of field_decl v) bytes ends erased } }
    where
      by : (fs : List FieldDecl) (bytes ends erased : List ℕ) (N D : ℕ) (st : State) → Held N D st s b d
          → Held N D (asking (λ rows. fields (given (some N) (some D) bytes ends erased) rows line owner (record { fields = []; words = 0 }) fs) st) s b d
      by fs bytes ends erased N D (running rows notes) H = absurd (h H.inside.0)
      by fs bytes ends erased N D (stopped k) H = subst (λ (st : State). Held N D st s b d) (sym (stays_asking (λ rows. fields (given (some N) (some D) bytes ends erased) rows line owner (record { fields = []; words = 0 }) fs) k)) H

  module _ {c : Kept} {t₁ t₂ r : Counts} {d₁ b₁ b₂ b' : List ℕ} (go : s.stop ≡ 0) (few : n < 16777216) (C : Checks ws at n line owner s c b d d₁)
      (R₁ : Rows (changing (remove (entry_key 131 owner c.fields) (entry_key 131 (owner + 1) 0))) c.counts t₁ b b₁) (R₂ : Rows (entering (type_row owner c.words line)) t₁ t₂ b₁ b₂)
      (E : Enters ws at n owner t₂ r b₂ b') where
    module _ (ns : List ℕ) (m : ℕ) (v : Tree Expr (many_rows FieldRow)) (end : ℕ) (S : Stands ws ns m at v end) (e : count v ≡ n) (bytes ends erased : List ℕ) where
      fields_after : (N D : ℕ) (st : State) → Held N D st s b d
          → Held N D (asking (λ rows. fields (given (some N) (some D) bytes ends erased) rows line owner (record { fields = []; words = 0 }) (rows_of field_decl v)) st) r b' d₁
      unfolding asking
      fields_after N D (running rows notes) H =
          let fs : List FieldDecl = rows_of field_decl v in
          let q = C.after ns m v end S e N D rows notes H in
          let st : State = checks D rows line owner 0 [] fs (running rows notes) in
          let put : Held N D (Put rows owner N line c.words (kept_fields rows owner 0 [] fs) st) r b' d₁ =
          put_does owner c.words line c.fields fs (rows_small ns m v S.valid) (omega (arith, C.upto)) R₁ R₂ (E.after ns m v end S e) d₁ C.fit N D rows st
          (checks_rows rows owner D line 0 [] fs (running rows notes) refl) q.2 q.0 in
          subst (λ (x : State). Held N D x r b' d₁)
          (ap (λ (w : ℕ). Put rows owner N line w (kept_fields rows owner 0 [] fs) st) q.1 ∙ sym (fields_split rows owner N D line bytes ends erased (record { fields = []; words = 0 }) [] fs (same_none rows owner) (running rows notes)))
          put
      fields_after N D (stopped k) H =
          let z : 0 ≡ k = sym go ∙ H.inside.0 in
          absurd (omega (arith, H.inside.1))

    -- the fields looked at, the old ones taken out, the TYPE and the kept ones entered: the definition's fields
    pub defines_done : Defines ws at n line owner s r b d b' d₁
    defines_done =
        record {
          does = λ ns m v end S e bytes ends erased.
              let R₃ = E.after ns m v end S e in
              record { fit = (R₃.fit, omega (arith, C.fit, R₁.kept, R₂.kept, R₃.kept)); after = fields_after ns m v end S e bytes ends erased };
        }

-- ---- the statement

-- its parts, where the words have them, and what collecting sees of it
pub record TypeParts (ws ns : List ℕ) (n at line : ℕ) (r : Tree Expr (one_row (sorts type_kind))) (end : ℕ) : Type 0 where
  pub name : ℕ
  pub decls : Tree Expr (many_rows FieldRow)
  pub inside : at + 2 < length ws
  pub line_is : pay_of (get_or ws at 0) ≡ line
  pub name_is : pay_of (get_or ws (at + 1) 0) ≡ name
  pub count_is : pay_of (get_or ws (at + 2) 0) ≡ count decls
  pub there : Stands ws ns n (at + 3) decls end
  pub named : eqb (get_or ns name 0) 1 ≡ true
  pub view_is : view type_kind (over see r) ≡ TypeDef name (rows_of field_decl decls)

-- its line, its name, its count, and then its fields
pub type_parts : {ws ns : List ℕ} {n at line end : ℕ} (r : Tree Expr (one_row (sorts type_kind))) → Stands ws ns n at (Stmt type_kind line r) end → TypeParts ws ns n at line r end
unfolding sorts words_t Right view over items
type_parts {ws} {ns} {n} {at} {line} {end} (cons (word x) (cons (list rs) done)) s =
    let f = wrote_first s.wrote in
    let g = wrote_first f.rest in
    let h = wrote_first g.rest in
    let two : at + 1 + 1 ≡ at + 2 = omega arith in
    let three : at + 1 + 1 + 1 ≡ at + 3 = omega arith in
    let q = h.rest in
    let p = rw (append-nil (words_t rs), three) at q in
    let counted = h.is in
    let c = rw (two) at counted in
    record {
      name = x;
      decls = rs;
      inside = omega (arith, h.inside);
      line_is = ap pay_of f.is ∙ pay_is (64 + number_of type_kind) line s.valid.0;
      name_is = ap pay_of g.is ∙ pay_is 2 x s.valid.1.0.1;
      count_is = ap pay_of c ∙ pay_is 1 (count rs) s.valid.1.1.0.0;
      there = record { wrote = p; valid = s.valid.1.1.0.1 };
      named = s.valid.1.0.0;
      view_is = ap (TypeDef x) (field_rows_over see rs);
    }

module _ {ws : List ℕ} {at : ℕ} where
  abbrev type_there : (T : SomeType ws at) → TypeParts ws T.any.names T.any.strings at T.any.stmt.line T.any.stmt.fields T.any.stmt.end
  type_there T = type_parts T.any.stmt.fields T.any.stmt.stands

  -- its line, its name and its count are within the words
  pub type_inside_lem : SomeType ws at → at + 2 < length ws
  type_inside_lem T = (type_there T).inside

  -- as many fields stand after them
  pub type_fields : SomeType ws at → SomeFields ws (at + 3) (pay_of (get_or ws (at + 2) 0))
  type_fields T =
      let p = type_there T in
      record { names = T.any.names; strings = T.any.strings; tree = p.decls; end = T.any.stmt.end; stands = p.there; enough = omega (arith, p.count_is); few = T.few }

  -- a name's number is below the number of the marks
  pub type_name : SomeType ws at → pay_of (get_or ws (at + 1) 0) + 1 < 16777216
  type_name T = omega (arith, T.few, name_below T.any.names p.name p.named, p.name_is)
    where
      p : TypeParts ws T.any.names T.any.strings at T.any.stmt.line T.any.stmt.fields T.any.stmt.end
      p = type_there T

-- the two diagnostics, and then the fields
module _ (ws : List ℕ) (at scope : ℕ) {s t₁ t₂ r : Counts} {b d d₁ d₂ b' d' : List ℕ} (twice inner : Bool) (prev : ℕ) (fit : Fit s (length b) (length d))
    (told : (rows : List Row) → Keeps rows s.rows b → twice ≡ has rows 130 (pay_of (get_or ws (at + 1) 0)) 0)
    (line_told : (rows : List Row) → Keeps rows s.rows b → prev ≡ row_word 3 (find (entry_key 130 (pay_of (get_or ws (at + 1) 0)) 0) rows))
    (is : inner ≡ not (eqb scope 0))
    (A : Notes (noting twice (type_defined (pay_of (get_or ws at 0)) (pay_of (get_or ws (at + 1) 0)) prev)) s t₁ d d₁)
    (B : Notes (noting inner (type_inside (pay_of (get_or ws at 0)) (pay_of (get_or ws (at + 1) 0)))) t₁ t₂ d₁ d₂)
    (F : Defines ws (at + 3) (pay_of (get_or ws (at + 2) 0)) (pay_of (get_or ws at 0)) (pay_of (get_or ws (at + 1) 0)) t₂ r b d₂ b' d') where
  first : Does (λ N D. asking (λ rows. when (has rows 130 (pay_of (get_or ws (at + 1) 0)) 0) (push (some D) (type_defined (pay_of (get_or ws at 0)) (pay_of (get_or ws (at + 1) 0)) (row_word 3 (find (entry_key 130 (pay_of (get_or ws (at + 1) 0)) 0) rows)))))) s t₁ b d b d₁
  unfolding noting
  first =
      asked (record { yes = twice; line = prev }) (λ rows. record { yes = has rows 130 (pay_of (get_or ws (at + 1) 0)) 0; line = row_word 3 (find (entry_key 130 (pay_of (get_or ws (at + 1) 0)) 0) rows) }) (λ (a : Asked) N D. when a.yes (push (some D) (type_defined (pay_of (get_or ws at 0)) (pay_of (get_or ws (at + 1) 0)) a.line)))
      (λ a N D. stays_when a.yes (push (some D) (type_defined (pay_of (get_or ws at 0)) (pay_of (get_or ws (at + 1) 0)) a.line)) (stays_push D (type_defined (pay_of (get_or ws at 0)) (pay_of (get_or ws (at + 1) 0)) a.line)))
      (λ rows H. ap (λ (t : Bool). record { yes = t; line = prev }) (told rows H) ∙ ap (λ (l : ℕ). record { yes = has rows 130 (pay_of (get_or ws (at + 1) 0)) 0; line = l }) (line_told rows H))
      (notes_does A b fit.0)

  second : Does (λ N D. when (not (eqb scope 0)) (push (some D) (type_inside (pay_of (get_or ws at 0)) (pay_of (get_or ws (at + 1) 0))))) t₁ t₂ b d₁ b d₂
  unfolding noting
  second =
      same (λ N D. when (not (eqb scope 0)) (push (some D) (type_inside (pay_of (get_or ws at 0)) (pay_of (get_or ws (at + 1) 0))))) (λ N D st. ap (λ (t : Bool). when t (push (some D) (type_inside (pay_of (get_or ws at 0)) (pay_of (get_or ws (at + 1) 0)))) st) is)
      (notes_does B b (omega (arith, A.kept, fit.0)))

  -- so the statement is collected
  pub type_collects : CollectsAny type_kind ws scope at s r b d b' d'
  unfolding statement type_def
  type_collects =
      record {
        all = λ ns n bytes ends erased. record {
          does = λ line v end S.
              let p = type_parts v S in
              same (λ N D. statement (given (some N) (some D) bytes ends erased) scope line (view type_kind (over see v)))
              (λ N D st. rw (p.line_is, p.name_is, p.view_is) refl)
              (then (then first second) (F.does ns n p.decls end p.there (sym p.count_is) bytes ends erased));
        };
      }
