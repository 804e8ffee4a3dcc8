-- How far the scan of collecting is, and what each of its steps makes of it. Assumes nothing.
use Prim.Native.Nat.{ℕ, ◌+◌, ◌≤◌, ◌<◌}
use native.Mathlib.Omega.{arith}
use mathlib.Core.Path.{◌≡◌, refl, sym, ap, subst, ◌∙◌}
use mathlib.Core.List.{List, [], ◌∷◌}
use mathlib.Core.Option.{some}
use lib.ListN.{length, get_or}
use Rattle.base_words.specs.Word.{kind_of}
use Rattle.tree_expr.specs.Expr.{Expr}
use Rattle.tree_stmt.specs.Sorts.{stmt, body, Kind, sorts, number_of}
use Rattle.tree_stmt.specs.Tree.{one, row, Tree, Stmt, depth_t, Right, over}
use Rattle.tree_stmt.specs.Stands.{Stands, SomeTree}
use Rattle.tree_stmt.specs.Memo.{Remembers, Past}
use Rattle.tree_stmt.proofs.Complete.{clear, clear_r, one_tree}
use Rattle.tree_views.specs.View.{view, inner, walk}
use Rattle.fold_const_eval.specs.EvalLaws.{Words32}
use Rattle.collect_buffers.specs.State.{◌⨾◌, nothing, each}
use Rattle.collect_buffers.specs.Held.{Does}
use Rattle.collect_buffers.proofs.Compose.{nothing_does, same, then}
use Rattle.collect_buffers.specs.declared.Counts.{Counts}
use Rattle.collect_definition.specs.Seen.{see}
use Rattle.collect_definition.specs.Collect.{Given, given, statement, collect}
use Rattle.tree_walk.specs.Pieces.{Piece}
use Rattle.tree_walk.specs.Plans.{InsideAt}
use Rattle.tree_walk.specs.Items.{Item, tree_item, StandsAll, quiet_i, outer_is}
use Rattle.tree_walk.proofs.Scopes.{inner_over, inner_other}
use Rattle.tree_walk.proofs.Walk.{head_kind, fields, to_some}
use Rattle.tree_walk.proofs.Front.{StmtAt, at_stmt, at_end, items_tree, items_inside, quiet_body, quiet_kind}
use Rattle.law_collected_rows.specs.Views.{stands_known, Scope, inner_scope, view_fine}
use Rattle.law_collected_rows.specs.Lawful.{statement_good}
use Rattle.collect_scan.specs.Walk.{Kept, Ready, Alone, ReadyProcedure, ReadyWhole, Scanning, Scanned, Left, SoFar, Doing, SomeItems, Passes, piece, Stated, Collects}
use Rattle.collect_scan.proofs.Passing.{opened, closed, alone}

-- ---- how far the scan is

-- at the start nothing is done
pub scan_start : {ws ns bytes ends erased : List ℕ} {scope from to : ℕ} {s : Counts} {b d : List ℕ} → Scanning ws ns bytes ends scope from to s b d → SoFar ws ns bytes ends erased scope from from to s s b d b d
scan_start R = record { ahead = omega arith; left = λ xs h. record { items = xs; there = h; before = λ N D. nothing; does = nothing_does R.kept.fit; rest = λ N D st. refl }; kept = R.kept }

-- at the end all is done
pub scan_end : {ws ns bytes ends erased : List ℕ} {scope from at to : ℕ} {s t : Counts} {b d b' d' : List ℕ} → SoFar ws ns bytes ends erased scope from at to s t b d b' d' → to ≤ at → Scanned ws ns bytes ends erased scope from to s t b d b' d'
unfolding each
scan_end {bytes = bytes} {ends} {erased} {scope} w z = record {
  does = λ xs h.
      let L = w.left xs h in
      let q : outer_is L.items ≡ [] = (at_end L.there z).1 in
      same (λ N D. each (piece (given (some N) (some D) bytes ends erased) scope) (outer_is xs)) (λ N D st. sym (ap (λ (l : List (Piece Expr)). each (piece (given (some N) (some D) bytes ends erased) scope) l (L.before N D st)) q) ∙ L.rest N D st) L.does;
  kept = w.kept;
}

-- ---- a procedure

-- a kind that does something and is no procedure's opens no scope
pub no_procedure : {k : ℕ} → Doing k → (k ≡ 84 → ⊥) → (k ≡ 85 → ⊥) → Alone k
no_procedure D f g = record { from = D.from; upto = D.upto; no_sub = f; no_function = g }

-- the scope of its bodies, as collecting sees it
within_seen : {ws ns : List ℕ} {n at end scope within : ℕ} {k : Kind} {line : ℕ} {f : Tree Expr (row (sorts k))} → InsideAt ws at scope within → Stands ws ns n at (Stmt k line f) end → within ≡ inner scope (view k (over see f))
within_seen {ns = ns} {n} {end = end} {scope} {k = k} {line} {f} I h = I.gives ns n k line f end h ∙ sym (inner_over see scope k f)

-- where the statement there ends
abbrev pub Ends : (ws ns : List ℕ) (n at e : ℕ) → Type 0
Ends ws ns n at e = (v : Tree Expr (one stmt)) (end : ℕ) → Stands ws ns n at v end → depth_t v ≤ 100 → e ≡ end

-- it ends where reading told, by the marks and how many strings there are
pub ends_at : {ws ns bytes ends ms memo : List ℕ} {n scope from to at e : ℕ} {s : Counts} {b d : List ℕ} → Scanning ws ns bytes ends scope from to s b d → Remembers ws ns (length ns) memo → (ms ≡ ns) × (n ≡ length ns) → Past ws ms n memo at e → Ends ws ns (length ends) at e
ends_at {ws} {ns} {memo = memo} {at = at} {e} R m q P =
    subst (λ (k : ℕ). Ends ws ns k at e) R.around.counted ((rw (q.0, q.1) at P).gives m)

-- its fields alone, as items
body_items : {ws ns : List ℕ} {n at : ℕ} {xs : List Item} {to : ℕ} (M : StmtAt ws ns n 100 at xs to) → StandsAll ws ns n 100 (at + 1) (tree_item M.fields ∷ []) M.mid
unfolding quiet_i depth_t
body_items M = items_tree (quiet_kind M.kind) (fields M.whole) (omega (arith, M.shallow))

-- ---- one step on: each item list that was left opens by its first word

module _ {ws ns bytes ends erased : List ℕ} {scope at to : ℕ} {xs : List Item} {s t : Counts} {b d b' d' : List ℕ} (L : Left ws ns bytes ends erased scope at to xs s t b d b' d') where
  -- nothing said up to a later place
  pub left_past : {a : ℕ} → Passes ws at a to → Left ws ns bytes ends erased scope a to xs s t b d b' d'
  left_past P =
      let p = P.past ns (length ends) L.items L.there in
      record { items = p.items; there = p.there; before = L.before; does = L.does; rest = λ N D st. p.alike (given (some N) (some D) bytes ends erased) scope (L.before N D st) ∙ L.rest N D st }

  -- a statement that opens no scope
  pub left_stmt : {r : Counts} {b'' d'' : List ℕ} (M : StmtAt ws ns (length ends) 100 at L.items to) → (kind_of (get_or ws at 0) ≡ 84 → ⊥) → (kind_of (get_or ws at 0) ≡ 85 → ⊥) → Stated ws ns (length ends) bytes ends erased scope at t r b' d' b'' d''
      → Left ws ns bytes ends erased scope (at + 1) to xs s r b d b'' d''
  left_stmt M f g S =
      let k = M.kind in
      let r = M.fields in
      let e : kind_of (get_or ws at 0) ≡ 64 + number_of k = head_kind M.whole in
      let q : scope ≡ inner scope (view k (over see r)) = inner_other scope k (over see r) (λ p. f (omega arith)) (λ p. g (omega arith)) in
      record {
        items = tree_item r ∷ M.rest;
        there = M.there;
        before = λ N D. L.before N D ⨾ statement (given (some N) (some D) bytes ends erased) scope M.line (view k (over see r));
        does = then L.does (S.does k M.line r M.mid M.whole);
        rest = λ N D st.
            opened (given (some N) (some D) bytes ends erased) scope k M.line r M.rest (L.before N D st) q
            ∙ ap (λ (l : List (Piece Expr)). each (piece (given (some N) (some D) bytes ends erased) scope) l (L.before N D st)) (sym M.stmts)
            ∙ L.rest N D st;
      }

  -- a procedure, with its body
  pub left_procedure : {within e : ℕ} {r u : Counts} {b'' d'' b''' d''' : List ℕ} (M : StmtAt ws ns (length ends) 100 at L.items to) → e ≡ M.mid → InsideAt ws at scope within → Stated ws ns (length ends) bytes ends erased scope at t r b' d' b'' d''
      → Scanned ws ns bytes ends erased within (at + 1) e r u b'' d'' b''' d''' → Left ws ns bytes ends erased scope e to xs s u b d b''' d'''
  left_procedure {within} {e} M m I S T =
      let k = M.kind in
      let r = M.fields in
      let ys : List Item = tree_item r ∷ [] in
      record {
        items = M.rest;
        there = rw m M.after;
        before = λ N D. (L.before N D ⨾ statement (given (some N) (some D) bytes ends erased) scope M.line (view k (over see r))) ⨾ each (piece (given (some N) (some D) bytes ends erased) within) (outer_is ys);
        does = then (then L.does (S.does k M.line r M.mid M.whole)) (T.does ys (subst (λ (x : ℕ). StandsAll ws ns (length ends) 100 (at + 1) ys x) (sym m) (body_items M)));
        rest = λ N D st.
            closed (given (some N) (some D) bytes ends erased) scope within k M.line r M.rest (L.before N D st) (within_seen I M.whole)
            ∙ ap (λ (l : List (Piece Expr)). each (piece (given (some N) (some D) bytes ends erased) scope) l (L.before N D st)) (sym M.stmts)
            ∙ L.rest N D st;
      }

-- ---- the steps of the loop

module _ {ws ns bytes ends erased : List ℕ} {scope from at to : ℕ} {s t : Counts} {b d b' d' : List ℕ} (w : SoFar ws ns bytes ends erased scope from at to s t b d b' d') where
  -- past words that say nothing
  pub scan_past : {a : ℕ} → Passes ws at a to → SoFar ws ns bytes ends erased scope from a to s t b d b' d'
  scan_past P = record { ahead = omega (arith, w.ahead, P.ahead); left = λ xs h. left_past (w.left xs h) P; kept = w.kept }

  -- at the place some items stand
  pub scan_some : Scanning ws ns bytes ends scope from to s b d → SomeItems ws at to
  scan_some R = let L = w.left R.items R.there in record { names = ns; strings = length ends; items = L.items; there = L.there }

module _ {ws ns bytes ends erased : List ℕ} {scope from at to : ℕ} {s t : Counts} {b d b' d' : List ℕ} (w : SoFar ws ns bytes ends erased scope from at to s t b d b' d') (z : at < to) where
  -- ---- what its calls ask

  module _ (R : Scanning ws ns bytes ends scope from to s b d) where
    module _ (l : 64 ≤ kind_of (get_or ws at 0)) (u : kind_of (get_or ws at 0) < 118) where
      -- the statement there
      stmt_there : StmtAt ws ns (length ends) 100 at (w.left R.items R.there).items to
      stmt_there = at_stmt (w.left R.items R.there).there z l u

      -- it may be collected
      stmt_ready : Ready (one stmt) ws ns bytes ends scope at t b' d'
      stmt_ready = let M = stmt_there in record { tree = record { tree = Stmt M.kind M.line M.fields; end = M.mid; stands = M.whole; shallow = M.shallow }; around = R.around; kept = w.kept }

      -- after it the buffers keep a good state
      stated_kept : Words32 ws → {r : Counts} {b'' d'' : List ℕ} → Stated ws ns (length ends) bytes ends erased scope at t r b' d' b'' d'' → Kept ns (length ends) r b'' d''
      unfolding Right
      stated_kept W32 S =
          let M = stmt_there in
          let D = S.does M.kind M.line M.fields M.mid M.whole in
          let K = w.kept in
          let G : Given = given (some K.rows_room) (some K.notes_room) bytes ends erased in
          record {
            fit = D.fit;
            rows_room = K.rows_room;
            notes_room = K.notes_room;
            state = statement G scope M.line (view M.kind (over see M.fields)) K.state;
            held = D.after K.rows_room K.notes_room K.state K.held;
            good = (statement_good ns (length ends) G scope M.line M.kind M.fields R.around.counted R.around.scoped M.whole.valid (stands_known W32 (fields M.whole))).on K.state K.good;
          }

    -- ---- a statement that opens no scope

    module _ (o : Alone (kind_of (get_or ws at 0))) where
      -- what its call asks
      pub stmt_asks : Ready (one stmt) ws ns bytes ends scope at t b' d' × Alone (kind_of (get_or ws at 0))
      stmt_asks = (stmt_ready o.from (omega (arith, o.upto)), o)

      -- past its head
      pub stmt_past : Words32 ws → {r : Counts} {b'' d'' : List ℕ} → Stated ws ns (length ends) bytes ends erased scope at t r b' d' b'' d'' → SoFar ws ns bytes ends erased scope from (at + 1) to s r b d b'' d''
      stmt_past W32 S = record {
        ahead = omega (arith, w.ahead);
        left = λ xs h. let L = w.left xs h in left_stmt L (at_stmt L.there z o.from (omega (arith, o.upto))) o.no_sub o.no_function S;
        kept = stated_kept o.from (omega (arith, o.upto)) W32 S;
      }

    -- ---- a procedure

    module _ (l : 84 ≤ kind_of (get_or ws at 0)) (u : kind_of (get_or ws at 0) < 86) where
      -- the procedure there
      procedure_there : StmtAt ws ns (length ends) 100 at (w.left R.items R.there).items to
      procedure_there = stmt_there (omega arith) (omega arith)

      -- some statement stands there
      pub procedure_some : SomeTree (one stmt) ws at
      procedure_some = to_some (stmt_ready (omega arith) (omega arith)).tree

      module _ {e : ℕ} (E : Ends ws ns (length ends) at e) where
        ends_there : e ≡ procedure_there.mid
        ends_there = E _ procedure_there.mid procedure_there.whole procedure_there.shallow

        -- it may be collected, with its end
        pub procedure_ready : ReadyProcedure ws ns bytes ends scope at e t b' d'
        unfolding stmt_ready procedure_there
        procedure_ready = record { ready = stmt_ready (omega arith) (omega arith); over_at_lem = sym ends_there; from = l; upto = omega arith }

        -- where it ends
        pub procedure_span : (at < e) × (e ≤ to)
        procedure_span =
            let M = procedure_there in
            (omega (arith, ends_there, (items_inside (body_items M)).0), omega (arith, ends_there, (items_inside M.after).0))

        module _ {within : ℕ} {r : Counts} {b'' d'' : List ℕ} (I : InsideAt ws at scope within) (S : Stated ws ns (length ends) bytes ends erased scope at t r b' d' b'' d'') where
          -- its body may be scanned, in its scope
          pub body_ready : Words32 ws → Scanning ws ns bytes ends within (at + 1) e r b'' d''
          unfolding Right
          body_ready W32 =
              let M = procedure_there in
              let k = M.kind in
              let f = M.fields in
              let x : Scope ns (length ends) (inner scope (view k (over see f))) = inner_scope ns (length ends) (view k (over see f)) R.around.scoped (view_fine ns (length ends) k f M.whole.valid.1 (stands_known W32 (fields M.whole))) in
              record {
                items = tree_item f ∷ [];
                there = subst (λ (y : ℕ). StandsAll ws ns (length ends) 100 (at + 1) (tree_item f ∷ []) y) (sym ends_there) (body_items M);
                around = record { named = R.around.named; counted = R.around.counted; few = R.around.few; scoped = subst (Scope ns (length ends)) (sym (within_seen I M.whole)) x };
                kept = stated_kept (omega arith) (omega arith) W32 S;
              }

          -- past all of it
          pub procedure_past : {v : Counts} {b''' d''' : List ℕ} → Scanned ws ns bytes ends erased within (at + 1) e r v b'' d'' b''' d''' → SoFar ws ns bytes ends erased scope from e to s v b d b''' d'''
          procedure_past T = record {
            ahead = omega (arith, w.ahead, procedure_span.0);
            left = λ xs h. let L = w.left xs h in let M = at_stmt L.there z (omega arith) (omega arith) in left_procedure L M (E (Stmt M.kind M.line M.fields) M.mid M.whole M.shallow) I S T;
            kept = T.kept;
          }

-- ---- a whole list of statements

module _ {ws ns bytes ends : List ℕ} {scope at : ℕ} {s : Counts} {b d : List ℕ} (R : ReadyWhole ws ns bytes ends scope at s b d) where
  -- it may be scanned to the end of the words
  pub whole_scanning : Scanning ws ns bytes ends scope at (length ws) s b d
  whole_scanning = record {
    items = tree_item R.ready.tree.tree ∷ [];
    there = subst (λ (y : ℕ). StandsAll ws ns (length ends) 100 at (tree_item R.ready.tree.tree ∷ []) y) R.whole (items_tree quiet_body R.ready.tree.stands R.ready.tree.shallow);
    around = R.ready.around;
    kept = R.ready.kept;
  }

  -- and scanned so it is collected
  pub whole_scanned : {erased : List ℕ} {r : Counts} {b' d' : List ℕ} → Scanned ws ns bytes ends erased scope at (length ws) s r b d b' d' → Collects ws ns bytes ends erased scope at (length ws) s r b d b' d'
  unfolding collect clear clear_r
  whole_scanned {erased} {r} {b'} {d'} S = record { does = λ v end h. go v end h; kept = S.kept }
    where
      go : (v : Tree Expr (one body)) (end : ℕ) → Stands ws ns (length ends) at v end → (length ws ≡ end) × Does (λ N D. collect (given (some N) (some D) bytes ends erased) scope (over see v)) s r b d b' d'
      go v end h =
          let T = R.ready.tree in
          let one = one_tree ws ns (length ends) v T.tree at end T.end refl h.valid T.stands.valid h.wrote T.stands.wrote in
          let e : length ws ≡ end = sym (one.1 ∙ R.whole) in
          let shallow : depth_t v ≤ 100 = omega (arith, ap depth_t one.0, T.shallow) in
          let A = S.does (tree_item v ∷ []) (subst (λ (y : ℕ). StandsAll ws ns (length ends) 100 at (tree_item v ∷ []) y) (sym e) (items_tree quiet_body h shallow)) in
          (e, same (λ N D. walk (statement (given (some N) (some D) bytes ends erased)) scope (over see v)) (λ N D st. alone (given (some N) (some D) bytes ends erased) scope v st) A)
