-- Assignment targets: a name with its indices, a target with its field names, a list of targets. Assumes nothing.
use Prim.Native.Nat.{ℕ, ◌+◌, ◌<◌, ◌≤◌}
use native.Mathlib.Omega.{arith}
use mathlib.Core.Path.{◌≡◌, refl, sym, ap, ◌∙◌}
use mathlib.Core.List.{List, [], ◌++◌, append-nil}
use mathlib.Core.Option.{Option, none as nothing, some}
use lib.Dec.{eqb}
use lib.ListN.{length, get_or}
use Rattle.base_words.specs.Word.{pay_of, pick}
use Rattle.tree_expr.specs.Expr.{Expr, Exprs, many}
use Rattle.tree_expr.specs.Stands as W
use Rattle.tree_expr.proofs.Parts.{wrote_first, pay_is}
use Rattle.tree_stmt.specs.Sorts.{expr, nil, ◌&◌, opt, exprs, named, many as many_sort, LValue as LValueRow}
use Rattle.tree_stmt.specs.Tree.{strings, one, row, rows, Tree, word, value, list, part, this, that, done, cons, none, more, count, words_t, Right}
use Rattle.tree_stmt.specs.Stands.{Stands, SomeTree}
use Rattle.tree_stmt.proofs.Nodes.{cons_left, cons_right, cons_last, InList, in_list}
use Rattle.tree_walk.proofs.Members.{members, many_members, members_there}
use Rattle.tree_views.specs.View.{LValue, lvalue, optional, expressions, expression, items, rows_of}
use Rattle.tree_views.specs.Uses.{own}
use Rattle.collect_subscript_count.specs.Subscripts.{or_else, first_of, in_expr, in_exprs, indexed, in_lvalue}
use Rattle.collect_subscript_count.specs.Notes.{Mark, noted}
use Rattle.collect_subscript_count.specs.Code.{Marks, SomeExprs, NotesExprs, IndexedAt, NotesIndexed, NotesTarget, NotesTargets}
use Rattle.collect_subscript_count.proofs.Marks.{noted_same, noted_swap}
use Rattle.collect_subscript_count.proofs.Expressions.{pick_none, first_of_append}
use Rattle.collect_subscript_count.proofs.Lists.{moved, Act, act_rows, ListRead, list_start, list_next, list_step, list_done}

-- ---- a list of expressions in a row

own_members : (name : ℕ) (rs : Tree Expr (rows (expr & nil))) → first_of (in_expr name) (own rs) ≡ in_exprs name (members rs)
unfolding own first_of in_exprs members
own_members name none = refl
own_members name (more (cons (value e) done) rs) = ap (or_else (in_expr name e)) (own_members name rs)

length_members : (rs : Tree Expr (rows (expr & nil))) → length (rows_of expression rs) ≡ count rs
unfolding rows_of count
length_members none = refl
length_members (more r rs) = omega (arith, length_members rs)

-- ---- a name's indices

record InIndices (ws : List ℕ) (at : ℕ) (ns : List ℕ) (n : ℕ) (is : Tree Expr (one (opt (exprs & nil)))) (end : ℕ) : Type 0 where
  es : Exprs
  there : W.StandsAll ws (strings ns n) (at + 2) es end
  counted : many es ≡ pay_of (get_or ws (at + 1) 0)
  own_is : (x : ℕ) → first_of (in_expr x) (own is) ≡ in_exprs x es
  indices : indexed (optional expressions is) ≡ some (pay_of (get_or ws (at + 1) 0))

module _ {ws : List ℕ} {at : ℕ} where
  in_indices : {ns : List ℕ} {n : ℕ} {is : Tree Expr (one (opt (exprs & nil)))} {end : ℕ} → (get_or ws (at + 1) 0 ≡ 0 → ⊥) → Stands ws ns n (at + 1) is end → InIndices ws at ns n is end
  unfolding words_t Right own optional expressions items indexed
  in_indices {is = this done} z s = absurd (z (wrote_first s.wrote).is)
  in_indices {ns} {n} {is = that (part (cons (list rs) done))} {end} z s =
      let l : Stands ws ns n (at + 1) (list rs) end = cons_last (record { wrote = s.wrote; valid = s.valid }) in
      let f = wrote_first l.wrote in
      let t : Stands ws ns n (at + 1 + 1) rs end = record { wrote = f.rest; valid = l.valid.1 } in
      let c : count rs ≡ pay_of (get_or ws (at + 1) 0) = sym (ap pay_of f.is ∙ pay_is 1 (count rs) l.valid.0) in
      record {
        es = members rs;
        there = members_there (moved (omega arith) t);
        counted = many_members rs ∙ c;
        own_is = λ x. ap (first_of (in_expr x)) (append-nil (own rs)) ∙ own_members x rs;
        indices = ap some (length_members rs ∙ c);
      }

  -- the word after the name is within the words
  pub indexed_here : IndexedAt ws at → at + 1 < length ws
  unfolding words_t
  indexed_here A = go A.some.tree A.some.stands
    where
      go : (is : Tree Expr (one (opt (exprs & nil)))) → Stands ws A.some.names A.some.strings (at + 1) is A.some.end → at + 1 < length ws
      go (this done) s = (wrote_first s.wrote).inside
      go (that (part (cons (list rs) done))) s = (wrote_first s.wrote).inside

  -- where it isn't 0, it is a list's head, and as many expressions follow
  pub indexed_there : (get_or ws (at + 1) 0 ≡ 0 → ⊥) → IndexedAt ws at → SomeExprs ws (at + 2) (pay_of (get_or ws (at + 1) 0))
  indexed_there z A = let i = in_indices z A.some.stands in record { strings = strings A.some.names A.some.strings; exprs = i.es; end = A.some.end; stands = i.there; counted = i.counted }

  -- where it is 0, there is no use
  pub indexed_absent : {k j : ℕ} {before after : Marks} → get_or ws (at + 1) 0 ≡ 0 → ((x : ℕ) → after x ≡ before x) → NotesIndexed ws at k j before after (at + 2)
  unfolding words_t own first_of in_lvalue indexed optional noted
  indexed_absent {k} {j} {before} {after} z q = record { gives = λ ns n is end s. go ns n is end s }
    where
      go : (ns : List ℕ) (n : ℕ) (is : Tree Expr (one (opt (exprs & nil)))) (end : ℕ) → Stands ws ns n (at + 1) is end → ((x : ℕ) → after x ≡ noted j (first_of (in_expr x) (own is)) (noted k (in_lvalue x (record { name = pay_of (get_or ws at 0); indices = optional expressions is })) (before x))) × (at + 2 ≡ end)
      go ns n (this done) end s = (λ x. q x ∙ ap (λ (o : Option ℕ). noted k o (before x)) (sym (pick_none (eqb (pay_of (get_or ws at 0)) x))), omega (arith, s.wrote.span))
      go ns n (that (part (cons (list rs) done))) end s = let f = wrote_first s.wrote in absurd (omega (arith, f.is, z))

  -- the target itself, and then what the indices have
  pub indexed_done : {k j next : ℕ} {before mid after : Marks} → (get_or ws (at + 1) 0 ≡ 0 → ⊥) → ((x : ℕ) → mid x ≡ noted k (pick (eqb (pay_of (get_or ws at 0)) x) (some (pay_of (get_or ws (at + 1) 0))) nothing) (before x)) → NotesExprs ws (at + 2) (pay_of (get_or ws (at + 1) 0)) j mid after next → NotesIndexed ws at k j before after next
  unfolding in_lvalue
  indexed_done {k} {j} {before = before} {mid} z q E = record {
    gives = λ ns n is end t.
        let i = in_indices z t in
        let g = E.gives (strings ns n) i.es end i.there i.counted in (
          λ x. g.0 x
              ∙ ap (λ (o : Option ℕ). noted j o (mid x)) (sym (i.own_is x))
              ∙ ap (noted j (first_of (in_expr x) (own is))) (q x ∙ ap (λ (o : Option ℕ). noted k (pick (eqb (pay_of (get_or ws at 0)) x) o nothing) (before x)) (sym i.indices)),
          g.1,
        );
  }

-- ---- a target with its field names

names_long : (fs : Tree Expr (rows (named & nil))) → length (words_t fs) ≡ count fs
unfolding words_t count
names_long none = refl
names_long (more (cons (word x) done) fs) = omega (arith, names_long fs)

names_own : (fs : Tree Expr (rows (named & nil))) → own fs ≡ []
unfolding own
names_own none = refl
names_own (more (cons (word x) done) fs) = names_own fs

record InTarget (ws : List ℕ) (at : ℕ) (ns : List ℕ) (n : ℕ) (v : Tree Expr (row LValueRow)) (end : ℕ) : Type 0 where
  is : Tree Expr (one (opt (exprs & nil)))
  mid : ℕ
  there : Stands ws ns n (at + 1) is mid
  fits : mid < length ws
  to : mid + 1 + pay_of (get_or ws mid 0) ≡ end
  lvalue_is : lvalue v ≡ record { name = pay_of (get_or ws at 0); indices = optional expressions is }
  own_is : own v ≡ own is

in_target : {ws : List ℕ} {at : ℕ} {ns : List ℕ} {n : ℕ} {v : Tree Expr (row LValueRow)} {end : ℕ} → Stands ws ns n at v end → InTarget ws at ns n v end
unfolding words_t Right own lvalue
in_target {ws} {at} {ns} {n} {v = cons (word x) (cons is (cons (list fs) done))} {end} s =
    let f = wrote_first s.wrote in
    let r : Stands ws ns n (at + 1) (cons is (cons (list fs) done)) end = record { wrote = f.rest; valid = s.valid.1 } in
    let m : ℕ = at + 1 + length (words_t is) in
    let l : Stands ws ns n m (list fs) end = cons_last (cons_right r) in
    let g = wrote_first l.wrote in
    let c : pay_of (get_or ws m 0) ≡ count fs = ap pay_of g.is ∙ pay_is 1 (count fs) l.valid.0 in
    record {
      is = is;
      mid = m;
      there = cons_left r;
      fits = g.inside;
      to = omega (arith, c, names_long fs, g.rest.span);
      lvalue_is = ap (λ (y : ℕ). record { name = y; indices = optional expressions is }) (sym (ap pay_of f.is ∙ pay_is 2 x s.valid.0.1));
      own_is = ap (λ (l : List Expr). own is ++ (l ++ [])) (names_own fs) ∙ append-nil (own is);
    }

module _ {ws : List ℕ} {at : ℕ} where
  -- its name and indices come first
  pub target_there : SomeTree (row LValueRow) ws at → IndexedAt ws at
  target_there A = let i = in_target A.stands in record { some = record { names = A.names; strings = A.strings; tree = i.is; end = i.mid; stands = i.there } }

  -- the list of its field names
  pub target_fits : {k j next : ℕ} {before after : Marks} → SomeTree (row LValueRow) ws at → NotesIndexed ws at k j before after next → (next < length ws) × (next + 1 + pay_of (get_or ws next 0) ≤ length ws)
  target_fits {next = next} A T =
      let i = in_target A.stands in
      let q : next ≡ i.mid = (T.gives A.names A.strings i.is i.mid i.there).1 in
      let w = A.stands.wrote in
      let e : next + 1 + pay_of (get_or ws next 0) ≡ A.end = rw q i.to in
      (omega (arith, q, i.fits), omega (arith, e, w.inside))

  -- it ends after the list of its field names, in which there is no use
  pub target_done : {k j next : ℕ} {before after : Marks} → NotesIndexed ws at k j before after next → NotesTarget ws at k j before after (next + 1 + pay_of (get_or ws next 0))
  target_done {k} {j} {before = before} T = record {
    gives = λ ns n v end s.
        let i = in_target s in
        let g = T.gives ns n i.is i.mid i.there in (
          λ x. g.0 x
              ∙ ap (λ (l : List Expr). noted j (first_of (in_expr x) l) (noted k (in_lvalue x (record { name = pay_of (get_or ws at 0); indices = optional expressions i.is })) (before x))) (sym i.own_is)
              ∙ ap (λ (u : LValue Expr). noted j (first_of (in_expr x) (own v)) (noted k (in_lvalue x u) (before x))) (sym i.lvalue_is),
          rw g.1 i.to,
        );
  }

-- ---- a list of targets

-- what a target does: itself is noted at k, and then its indices at j
abbrev pub act_target : (k j : ℕ) → Act LValueRow
act_target k j x r m = noted j (first_of (in_expr x) (own r)) (noted k (in_lvalue x (lvalue r)) m)

-- two targets: both themselves, and then the indices of both
both_noted : {k j : ℕ} → k < j → (a b c d : Option ℕ) (m : Mark) → noted j d (noted k c (noted j b (noted k a m))) ≡ noted j (or_else b d) (noted k (or_else a c) m)
both_noted {k} {j} h a b c d m =
    ap (noted j d) (noted_swap h c b (noted k a m))
    ∙ noted_same j b d (noted k c (noted k a m))
    ∙ ap (noted j (or_else b d)) (noted_same k a c m)

targets_rows : {k j : ℕ} → k < j → (x : ℕ) (rs : Tree Expr (rows LValueRow)) (m : Mark) → act_rows (act_target k j) x rs m ≡ noted j (first_of (in_expr x) (own rs)) (noted k (first_of (in_lvalue x) (rows_of lvalue rs)) m)
unfolding own act_rows first_of rows_of noted
targets_rows h x none m = refl
targets_rows {k} {j} h x (more r rs) m =
    targets_rows h x rs (act_target k j x r m)
    ∙ both_noted h (in_lvalue x (lvalue r)) (first_of (in_expr x) (own r)) (first_of (in_lvalue x) (rows_of lvalue rs)) (first_of (in_expr x) (own rs)) m
    ∙ ap (λ (o : Option ℕ). noted j o (noted k (or_else (in_lvalue x (lvalue r)) (first_of (in_lvalue x) (rows_of lvalue rs))) m)) (sym (first_of_append (in_expr x) (own r) (own rs)))

-- i of n targets walked, up to a
pub record TargetsRead (ws : List ℕ) (at n k j : ℕ) (before now : Marks) (a i : ℕ) : Type 0 where
  all : n ≡ pay_of (get_or ws at 0)
  read : ListRead (act_target k j) ws at a i before now

-- none is walked
pub targets_start : (ws : List ℕ) (at k j : ℕ) (before : Marks) → TargetsRead ws at (pay_of (get_or ws at 0)) k j before before (at + 1) 0
targets_start ws at k j before = record { all = refl; read = list_start (act_target k j) ws at before }

module _ {ws : List ℕ} {at n k j : ℕ} {before now : Marks} {a i : ℕ} (R : TargetsRead ws at n k j before now a i) where
  -- the next one stands where the last one ended
  pub targets_next : SomeTree (one (many_sort LValueRow)) ws at → i < n → SomeTree (row LValueRow) ws a
  targets_next A h = (list_next A R.read (omega (arith, R.all))).0

  -- one more walked
  pub targets_step : {after : Marks} {a' : ℕ} → i < n → NotesTarget ws a k j now after a' → TargetsRead ws at n k j before after a' (i + 1)
  targets_step h T = record { all = R.all; read = list_step R.read (omega (arith, R.all)) (λ ns c r end t. T.gives ns c r end t) }

  -- all are walked
  pub targets_done : k < j → n ≤ i → NotesTargets ws at k j before now a
  unfolding own items
  targets_done l h = record { gives = λ ns c v end s. go ns c v end (in_list ws ns c s) }
    where
      go : (ns : List ℕ) (c : ℕ) (v : Tree Expr (one (many_sort LValueRow))) (end : ℕ) → InList ws ns c at v end → ((x : ℕ) → now x ≡ noted j (first_of (in_expr x) (own v)) (noted k (first_of (in_lvalue x) (items lvalue v)) (before x))) × (a ≡ end)
      go ns c v end I =
          let D = list_done R.read (omega (arith, R.all)) ns c I.items end I.there I.counted in (
            λ x. D.0 x ∙ targets_rows l x I.items (before x) ∙ ap (λ (y : Tree Expr (one (many_sort LValueRow))). noted j (first_of (in_expr x) (own y)) (noted k (first_of (in_lvalue x) (items lvalue y)) (before x))) (sym I.is),
            D.1,
          )
