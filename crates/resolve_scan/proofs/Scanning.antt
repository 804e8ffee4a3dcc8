-- A SUB or FUNCTION in a scan, and the scan itself, one token after another. Assumes nothing.
use Prim.Native.Nat.{ℕ, ◌+◌, ◌≤◌, ◌<◌}
use native.Mathlib.Omega.{arith}
use mathlib.Core.Path.{◌≡◌, refl, sym, ap, ◌∙◌}
use mathlib.Core.List.{List, [], ◌∷◌, ◌++◌, append-nil, append_assoc}
use lib.ListN.{length, get_or, set, length-append}
use lib.Seq.{sets}
use Rattle.base_words.specs.Word.{kind_of}
use Rattle.base_words.specs.Sizes.{max_depth}
use Rattle.base_words.specs.Laws.{sets_append}
use Rattle.tree_expr.specs.Expr.{Expr}
use Rattle.tree_stmt.specs.Sorts.{stmt, sorts}
use Rattle.tree_stmt.specs.Tree.{one, row, Tree, Stmt, depth_t, words_t}
use Rattle.tree_stmt.specs.Stands.{SomeTree}
use Rattle.tree_stmt.proofs.Complete.{one_tree, clear}
use Rattle.tree_walk.specs.Pieces.{written}
use Rattle.tree_walk.specs.Plans.{InsideAt}
use Rattle.tree_walk.specs.Items.{Item, tree_item, StandsAll, quiet_i, written_i, written_is}
use Rattle.tree_walk.proofs.Front.{StmtAt, at_stmt, at_end, items_tree, items_inside, quiet_kind, quiet_body}
use Rattle.tree_walk.proofs.Walk.{fields}
use Rattle.rows_table.specs.Rows.{Row, Holds}
use Rattle.resolve_definition.specs.Tables.{Tables, nowhere}
use Rattle.resolve_definition.specs.FromRows.{tables_of}
use Rattle.resolve_definition.specs.Resolve.{resolve_tree, resolve_array_accesses, first, inside}
use Rattle.resolve_definition.specs.Keeps.{shorter_tree}
use Rattle.resolve_exprs.specs.Post.{Put}
use Rattle.resolve_scan.specs.Post.{resolved, Moved, ReadyToken, DoneToken, ReadyScan, DoneScan, PastStmt, ReadyProgram, ResolvedProgram}
use Rattle.resolve_scan.proofs.Resolved.{parted, tree_is}
use Rattle.resolve_scan.proofs.Statements.{stmt_words, view_inside}
use Rattle.resolve_scan.proofs.Steps.{room_at}

-- ---- a SUB or FUNCTION

module _ {ws ns : List ℕ} {at : ℕ} {xs : List Item} {end : ℕ} (S : StmtAt ws ns (length ns) max_depth at xs end) where
  -- its fields, up to its end
  inner_items : StandsAll ws ns (length ns) max_depth (at + 1) (tree_item S.fields ∷ []) S.mid
  unfolding quiet_i depth_t
  inner_items = items_tree {i = row (sorts S.kind)} (quiet_kind S.kind) (fields S.whole) (omega (arith, S.shallow))

  -- the head, and the fields resolved in their own scope
  procedure_moved : (T : Tables) (σ : ℕ) {inner e to : ℕ} {out last : List ℕ} {t : ℕ} → (kind_of (get_or ws at 0) ≡ 86 → ⊥) → e ≡ S.mid → InsideAt ws at σ inner → Put (written_is (resolved T inner) (tree_item S.fields ∷ [])) (set out to (get_or ws at 0)) last (to + 1) e t e → Moved T σ ns ws xs at end to out e t last
  unfolding written_i written_is
  procedure_moved T σ {inner} {e} {to} {out} k q I d =
      let w : ℕ = get_or ws at 0 in
      let v : Tree Expr (row (sorts S.kind)) = S.fields in
      let y : List ℕ = words_t (resolve_tree T inner nowhere v) in
      let z : written_is (resolved T inner) (tree_item v ∷ []) ≡ y = append-nil (written (resolved T inner) v) ∙ sym (tree_is T inner v) in
      let f = fields S.whole in
      let i : inside σ S.kind (first v) ≡ inner = sym (I.gives ns (length ns) S.kind S.line v S.mid S.whole ∙ view_inside σ S.kind v) in
      let h : words_t (resolve_tree T σ nowhere (Stmt S.kind S.line v)) ≡ w ∷ y = stmt_words S.whole k T σ ∙ ap (λ (x : ℕ). w ∷ words_t (resolve_tree T x nowhere v)) i in
      record {
        left = S.rest;
        there = rw q S.after;
        wrote = w ∷ y;
        upto = omega (arith, d.upto, ap length z);
        short = omega (arith, q, f.wrote.span, shorter_tree T inner nowhere v);
        is = d.now ∙ ap (λ (l : List ℕ). sets (set out to w) (to + 1) l) z ∙ sym (sets_append (w ∷ []) y out to);
        rest = S.writes (resolved T σ) (parted T σ) ∙ ap (λ (l : List ℕ). l ++ written_is (resolved T σ) S.rest) h;
      }

module _ {ns ws buf : List ℕ} {count scope at to size : ℕ} (r : ReadyToken ns ws buf count scope at to size) (l : 84 ≤ kind_of (get_or ws at 0)) (u : kind_of (get_or ws at 0) < 86) where
  here : StmtAt ws ns (length ns) max_depth at r.items r.end
  here = at_stmt r.there r.before (omega (arith, l)) (omega (arith, u))

  -- some statement stands there
  pub some_stmt : SomeTree (one stmt) ws at
  some_stmt = record { names = ns; strings = length ns; tree = Stmt here.kind here.line here.fields; end = here.mid; stands = here.whole }

  -- its fields may be scanned, in its scope, up to its end
  pub ready_inner : {end inner size' a t : ℕ} → PastStmt ns ws at end → InsideAt ws at scope inner → size' ≡ size → a ≡ at + 1 → t ≡ to + 1 → ReadyScan ns ws buf count inner a end t size'
  ready_inner P I q x y =
      let e = P.gives (Stmt here.kind here.line here.fields) here.mid here.whole here.shallow in
      record {
        room = record { rows = r.room.rows; holds = r.room.holds; held = r.room.held; scoped = I.fits; behind = omega (arith, x, y, r.room.behind); fits = omega (arith, r.room.fits) };
        few = r.few;
        items = tree_item here.fields ∷ [];
        there = rw (e, x) (inner_items here);
      }

-- its head copied and its fields scanned: the statement is done
pub procedure_done : {ns ws buf out one last : List ℕ} {count scope at to a₀ t₀ end inner t : ℕ} → 84 ≤ kind_of (get_or ws at 0) → kind_of (get_or ws at 0) < 86 → PastStmt ns ws at end → InsideAt ws at scope inner
    → (a₀ ≡ at + 1) × (t₀ ≡ to + 1) × (one ≡ set out to (get_or ws at 0)) → DoneScan ns ws buf one last count inner a₀ end t₀ t → DoneToken ns ws buf out last count scope at to end t
procedure_done {ns} {ws} {scope = scope} {at} {end = end} l u P I o d = record {
  gives = λ rs H xs end' s z.
      let D = rw (o.0, o.1, o.2) at d in
      let S = at_stmt s z (omega (arith, l)) (omega (arith, u)) in
      let e : end ≡ S.mid = P.gives (Stmt S.kind S.line S.fields) S.mid S.whole S.shallow in
      let i : StandsAll ws ns (length ns) max_depth (at + 1) (tree_item S.fields ∷ []) end = rw e (inner_items S) in
      (procedure_moved S (tables_of rs) scope (λ k. omega (arith, k, u)) e I (D.gives rs H (tree_item S.fields ∷ []) i), omega (arith, items_inside i));
}

-- ---- the loop

moved_on : {T : Tables} {σ : ℕ} {ns ws : List ℕ} {xs : List Item} {at end to : ℕ} {out : List ℕ} {a t : ℕ} {now : List ℕ} (p : Moved T σ ns ws xs at end to out a t now) {a' t' : ℕ} {last : List ℕ} → Moved T σ ns ws p.left a end t now a' t' last → Moved T σ ns ws xs at end to out a' t' last
moved_on {T} {σ} {to = to} {out} {t = t} p q = record {
  left = q.left;
  there = q.there;
  wrote = p.wrote ++ q.wrote;
  upto = simp length-append (omega (arith, p.upto, q.upto));
  short = simp length-append (omega (arith, p.short, q.short));
  is = q.is ∙ ap (λ (l : List ℕ). sets l t q.wrote) p.is ∙ ap (λ (n : ℕ). sets (sets out to p.wrote) n q.wrote) p.upto ∙ sym (sets_append p.wrote q.wrote out to);
  rest = p.rest ∙ ap (λ (l : List ℕ). p.wrote ++ l) q.rest ∙ sym (append_assoc p.wrote q.wrote (written_is (resolved T σ) q.left));
}

-- scanned up to a
pub record Scanned (ns ws buf out : List ℕ) (count scope at end to a t : ℕ) (now : List ℕ) : Type 0 where
  pub gives : (rs : List Row) → Holds rs count buf → (xs : List Item) → StandsAll ws ns (length ns) max_depth at xs end → Moved (tables_of rs) scope ns ws xs at end to out a t now

module _ {ns ws buf out : List ℕ} {count scope at end to size a t : ℕ} {now : List ℕ} (r : ReadyScan ns ws buf count scope at end to size) (w : Scanned ns ws buf out count scope at end to a t now) where
  own : Moved (tables_of r.room.rows) scope ns ws r.items at end to out a t now
  own = w.gives r.room.rows r.room.holds r.items r.there

  -- the place is not before the start
  pub scan_from : at ≤ a
  scan_from = omega (arith, own.short)

  -- what the next token asks
  pub scan_next : a < end → {size' : ℕ} → size' ≡ size → ReadyToken ns ws buf count scope a t size'
  scan_next h q = record { room = room_at r.room a t (omega (arith, own.upto, own.short, r.room.behind)) q; few = r.few; items = own.left; end = end; there = own.there; before = h }

  -- it is nearer to the end
  pub scan_less : a < end → {last : List ℕ} {a' t' : ℕ} → DoneToken ns ws buf now last count scope a t a' t' → (a < a') × (a' ≤ end)
  scan_less h d =
      let e = d.gives r.room.rows r.room.holds own.left end own.there h in
      let m = e.0 in
      (e.1, (items_inside m.there).0)

-- one more token
pub scan_step : {ns ws buf out : List ℕ} {count scope at end to a t : ℕ} {now last : List ℕ} {a' t' : ℕ} → Scanned ns ws buf out count scope at end to a t now → a < end → DoneToken ns ws buf now last count scope a t a' t' → Scanned ns ws buf out count scope at end to a' t' last
scan_step {end = end} w h d = record {
  gives = λ rs H xs s.
      let p = w.gives rs H xs s in
      moved_on p (d.gives rs H p.left end p.there h).0;
}

-- at the end all is written
pub scan_done : {ns ws buf out : List ℕ} {count scope at end to a t : ℕ} {now : List ℕ} → Scanned ns ws buf out count scope at end to a t now → end ≤ a → DoneScan ns ws buf out now count scope at end to t
scan_done {scope = scope} w h = record {
  gives = λ rs H xs s.
      let p = w.gives rs H xs s in
      let g = resolved (tables_of rs) scope in
      let z : written_is g xs ≡ p.wrote = p.rest ∙ ap (λ (l : List ℕ). p.wrote ++ l) ((at_end p.there h).2 g) ∙ append-nil p.wrote in
      record { past = refl; upto = rw z p.upto; now = rw z p.is };
}

-- ---- a program

-- a program may be scanned from the first word to the last
pub ready_scan : {ns ws buf : List ℕ} {count size : ℕ} → ReadyProgram ns ws buf count size → ReadyScan ns ws buf count 0 0 (length ws) 0 size
ready_scan r = record { room = r.room; few = r.few; items = tree_item r.program ∷ []; there = items_tree quiet_body r.stands r.shallow }

-- and scanned so it is resolved
pub program_done : {ns ws buf out last : List ℕ} {count size t : ℕ} → ReadyProgram ns ws buf count size → DoneScan ns ws buf out last count 0 0 (length ws) 0 t → ResolvedProgram ns ws buf out last count t
unfolding written_i written_is resolve_array_accesses clear
program_done {ns} {ws} {out = out} {last} {t = t} r d = record {
  gives = λ rs H p s.
      let T : Tables = tables_of rs in
      -- one program only is all of the words
      let same = one_tree ws ns (length ns) p r.program 0 (length ws) (length ws) refl s.valid r.stands.valid s.wrote r.stands.wrote in
      let e = d.gives rs H (tree_item p ∷ []) (items_tree quiet_body s (rw same.0 r.shallow)) in
      let z : written_is (resolved T 0) (tree_item p ∷ []) ≡ words_t (resolve_tree T 0 nowhere p) = append-nil (written (resolved T 0) p) ∙ sym (tree_is T 0 p) in
      record { past = refl; upto = rw z at e.upto; now = rw z at e.now };
}
