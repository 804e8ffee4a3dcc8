-- Parts of statements in which no statement stands: options, the items of PRINT, lists of rows. Assumes nothing.
use Prim.Native.Nat.{ℕ, ◌+◌, ◌<◌, ◌≤◌}
use native.Mathlib.Omega.{arith}
use mathlib.Core.Path.{◌≡◌, refl, sym, ap, ◌∙◌}
use mathlib.Core.List.{List, [], ◌∷◌, append-nil}
use mathlib.Core.Option.{Option}
use lib.ListN.{length, get_or}
use Rattle.base_words.specs.Word.{word_of, kind_of, pay_of}
use Rattle.tree_expr.specs.Expr.{Expr, Lit, Var, Elem, Unary, Binary, Call, Field, Paren, kind_e}
use Rattle.tree_expr.specs.Stands.{Wrote}
use Rattle.tree_expr.specs.Stands as W
use Rattle.tree_expr.proofs.Parts.{wrote_first, kind_is}
use Rattle.tree_expr.proofs.Nodes.{kind_of_lem, within}
use Rattle.tree_stmt.specs.Sorts.{Sorts, expr, nil, ◌&◌, opt, many, PrintItem}
use Rattle.tree_stmt.specs.Tree.{strings, Shape, one, row, rows, Tree, value, part, this, that, done, cons, none, more, count, words_t, Right}
use Rattle.tree_stmt.specs.Stands.{Stands, SomeTree}
use Rattle.tree_stmt.proofs.Nodes.{cons_last, value_there, InList, in_list, in_more}
use Rattle.tree_skip.specs.Shape.{SomeExpr}
use Rattle.tree_views.specs.Uses.{own}
use Rattle.collect_subscript_count.specs.Subscripts.{first_of, in_expr}
use Rattle.collect_subscript_count.specs.Notes.{Mark, noted}
use Rattle.collect_subscript_count.specs.Code.{Marks, NotesExpr, NotesOwn}
use Rattle.collect_subscript_count.proofs.Marks.{noted_same}
use Rattle.collect_subscript_count.proofs.Expressions.{or_else_none, first_of_append}

-- ---- the parts of a row

-- the same tree, its place told otherwise
pub moved : {ws ns : List ℕ} {n : ℕ} {i : Shape} {v : Tree Expr i} {a a' end : ℕ} → a ≡ a' → Stands ws ns n a v end → Stands ws ns n a' v end
moved q h = rw q at h

-- a row of one expression
own_one : (name : ℕ) (e : Expr) → first_of (in_expr name) (own (cons (value e) done)) ≡ in_expr name e
unfolding own first_of
own_one name e = or_else_none (in_expr name e)

kind_some : (e : Expr) → 16 ≤ kind_e e
unfolding kind_e
kind_some (Lit l) = omega arith
kind_some (Var x) = omega arith
kind_some (Elem x es) = omega arith
kind_some (Unary o e) = omega arith
kind_some (Binary o l r) = omega arith
kind_some (Call x es) = omega arith
kind_some (Field e x) = omega arith
kind_some (Paren e) = omega arith

-- ---- an expression, or the word 0

record InOption (ws : List ℕ) (at : ℕ) (ns : List ℕ) (n : ℕ) (v : Tree Expr (one (opt (expr & nil)))) (end : ℕ) : Type 0 where
  expression : Expr
  there : W.Stands ws (strings ns n) at expression end
  own_is : (x : ℕ) → first_of (in_expr x) (own v) ≡ in_expr x expression

module _ {ws : List ℕ} {at : ℕ} where
  in_option : {ns : List ℕ} {n : ℕ} {v : Tree Expr (one (opt (expr & nil)))} {end : ℕ} → (get_or ws at 0 ≡ 0 → ⊥) → Stands ws ns n at v end → InOption ws at ns n v end
  unfolding words_t Right own
  in_option {v = this done} z s = absurd (z (wrote_first s.wrote).is)
  in_option {v = that (part (cons (value e) done))} z s = record { expression = e; there = value_there (cons_last (record { wrote = s.wrote; valid = s.valid })); own_is = λ x. own_one x e }

  -- such an option begins within the words
  pub option_here : SomeTree (one (opt (expr & nil))) ws at → at < length ws
  unfolding words_t Right
  option_here A = go A.tree A.stands
    where
      go : (v : Tree Expr (one (opt (expr & nil)))) → Stands ws A.names A.strings at v A.end → at < length ws
      go (this done) s = (wrote_first s.wrote).inside
      go (that (part (cons (value e) done))) s =
          let t = value_there (cons_last {ns = A.names} {n = A.strings} (record { wrote = s.wrote; valid = s.valid })) in
          let w = within t in
          omega (arith, w.moves, w.inside)

  -- where the word isn't 0, an expression stands there
  pub option_there : (get_or ws at 0 ≡ 0 → ⊥) → SomeTree (one (opt (expr & nil))) ws at → SomeExpr ws at
  option_there z A = let o = in_option z A.stands in record { strings = strings A.names A.strings; expr = o.expression; end = A.end; stands = o.there }

  -- where it was walked, the option is
  pub option_done : {k next : ℕ} {before after : Marks} → (get_or ws at 0 ≡ 0 → ⊥) → NotesExpr ws at k before after next → NotesOwn (one (opt (expr & nil))) ws at k before after next
  option_done {k} {before = before} z E = record {
    gives = λ ns n v end s.
        let o = in_option z s in
        let g = E.gives (strings ns n) o.expression end o.there in
        (λ x. g.0 x ∙ ap (λ (u : Option ℕ). noted k u (before x)) (sym (o.own_is x)), g.1);
  }

  -- where the word is 0, there is no use
  pub option_absent : {k : ℕ} {before after : Marks} → get_or ws at 0 ≡ 0 → ((x : ℕ) → after x ≡ before x) → NotesOwn (one (opt (expr & nil))) ws at k before after (at + 1)
  unfolding words_t Right own first_of noted
  option_absent {k} {before} {after} z q = record { gives = λ ns n v end s. go ns n v end s }
    where
      go : (ns : List ℕ) (n : ℕ) (v : Tree Expr (one (opt (expr & nil)))) (end : ℕ) → Stands ws ns n at v end → ((x : ℕ) → after x ≡ noted k (first_of (in_expr x) (own v)) (before x)) × (at + 1 ≡ end)
      go ns n (this done) end s = (q, s.wrote.span)
      go ns n (that (part (cons (value e) done))) end s =
          let t = value_there (cons_last {ns = ns} {n = n} (record { wrote = s.wrote; valid = s.valid })) in
          absurd (omega (arith, kind_of_lem t, kind_some e, ap kind_of z))

-- ---- an item of PRINT

record InItem (ws : List ℕ) (at : ℕ) (ns : List ℕ) (n : ℕ) (v : Tree Expr (row (PrintItem & nil))) (end : ℕ) : Type 0 where
  expression : Expr
  there : W.Stands ws (strings ns n) (at + 1) expression end
  own_is : (x : ℕ) → first_of (in_expr x) (own v) ≡ in_expr x expression

module _ {ws : List ℕ} {at : ℕ} where
  -- the kind of a head alone
  alone : {k end : ℕ} → Wrote ws at (word_of k 0 ∷ []) end → kind_of (get_or ws at 0) ≡ k
  alone {k} w = ap kind_of (wrote_first w).is ∙ kind_is k 0 (omega arith)

  in_item : {ns : List ℕ} {n : ℕ} {v : Tree Expr (row (PrintItem & nil))} {end : ℕ} → kind_of (get_or ws at 0) ≡ 32 → Stands ws ns n at v end → InItem ws at ns n v end
  unfolding words_t Right own
  in_item {ns} {n} {v = cons (this (cons (value e) done)) done} k s =
      let h = cons_last s in
      let t : Stands ws ns n (at + 1) (cons (value e) done) _ = record { wrote = (wrote_first h.wrote).rest; valid = h.valid } in
      record { expression = e; there = value_there (cons_last t); own_is = λ x. ap (first_of (in_expr x)) (append-nil (own (cons (value e) done))) ∙ own_one x e }
  in_item {v = cons (that (this done)) done} k s = absurd (omega (arith, k, alone {k = 33} (cons_last s).wrote))
  in_item {v = cons (that (that (this done))) done} k s = absurd (omega (arith, k, alone {k = 34} (cons_last s).wrote))
  in_item {v = cons (that (that (that v))) done} k s = elim v [ ]

  -- an item begins within the words
  pub item_here : SomeTree (row (PrintItem & nil)) ws at → at < length ws
  unfolding words_t
  item_here A = go A.tree A.stands
    where
      go : (v : Tree Expr (row (PrintItem & nil))) → Stands ws A.names A.strings at v A.end → at < length ws
      go (cons (this r) done) s = (wrote_first (cons_last s).wrote).inside
      go (cons (that (this done)) done) s = (wrote_first (cons_last s).wrote).inside
      go (cons (that (that (this done))) done) s = (wrote_first (cons_last s).wrote).inside
      go (cons (that (that (that v))) done) s = elim v [ ]

  -- behind the head 32 an expression stands
  pub item_there : kind_of (get_or ws at 0) ≡ 32 → SomeTree (row (PrintItem & nil)) ws at → SomeExpr ws (at + 1)
  item_there k A = let o = in_item k A.stands in record { strings = strings A.names A.strings; expr = o.expression; end = A.end; stands = o.there }

  -- where it was walked, the item is
  pub item_done : {k next : ℕ} {before after : Marks} → kind_of (get_or ws at 0) ≡ 32 → NotesExpr ws (at + 1) k before after next → NotesOwn (row (PrintItem & nil)) ws at k before after next
  item_done {k} {before = before} h E = record {
    gives = λ ns n v end s.
        let o = in_item h s in
        let g = E.gives (strings ns n) o.expression end o.there in
        (λ x. g.0 x ∙ ap (λ (u : Option ℕ). noted k u (before x)) (sym (o.own_is x)), g.1);
  }

  -- behind another head there is no use
  pub item_alone : {k : ℕ} {before after : Marks} → (kind_of (get_or ws at 0) ≡ 32 → ⊥) → ((x : ℕ) → after x ≡ before x) → NotesOwn (row (PrintItem & nil)) ws at k before after (at + 1)
  unfolding words_t Right own first_of noted
  item_alone {k} {before} {after} z q = record { gives = λ ns n v end s. go ns n v end s }
    where
      go : (ns : List ℕ) (n : ℕ) (v : Tree Expr (row (PrintItem & nil))) (end : ℕ) → Stands ws ns n at v end → ((x : ℕ) → after x ≡ noted k (first_of (in_expr x) (own v)) (before x)) × (at + 1 ≡ end)
      go ns n (cons (this r) done) end s = absurd (z (ap kind_of (wrote_first (cons_last s).wrote).is ∙ kind_is 32 0 (omega arith)))
      go ns n (cons (that (this done)) done) end s = (q, s.wrote.span)
      go ns n (cons (that (that (this done))) done) end s = (q, s.wrote.span)
      go ns n (cons (that (that (that v))) done) end s = elim v [ ]

-- ---- a list of rows, one after another

-- what a row does to the mark of a name
abbrev pub Act : Sorts → Type 0
Act ss = ℕ → Tree Expr (row ss) → Mark → Mark

-- what the rows do, one after another
unfoldable pub act_rows : {ss : Sorts} → Act ss → ℕ → Tree Expr (rows ss) → Mark → Mark
act_rows f x none m = m
act_rows f x (more r rs) m = act_rows f x rs (f x r m)

record RowsLeft {ss : Sorts} (f : Act ss) (ws ns : List ℕ) (n : ℕ) (rs : Tree Expr (rows ss)) (at end a i : ℕ) (before now : Marks) : Type 0 where
  left : Tree Expr (rows ss)
  there : Stands ws ns n a left end
  few : count left + i ≡ count rs
  from : at ≤ a
  is : (x : ℕ) → act_rows f x left (now x) ≡ act_rows f x rs (before x)

-- i rows of the list at `at` walked, up to a: what the rows left do comes to what all do
pub record ListRead {ss : Sorts} (f : Act ss) (ws : List ℕ) (at a i : ℕ) (before now : Marks) : Type 0 where
  gives : (ns : List ℕ) (n : ℕ) (rs : Tree Expr (rows ss)) (end : ℕ) → Stands ws ns n (at + 1) rs end → count rs ≡ pay_of (get_or ws at 0) → RowsLeft f ws ns n rs (at + 1) end a i before now

-- a list begins within the words
pub list_here : {ss : Sorts} {ws : List ℕ} {at : ℕ} → SomeTree (one (many ss)) ws at → at < length ws
list_here {ws = ws} A = let t = (in_list ws A.names A.strings A.stands).there.wrote in omega (arith, t.span, t.inside)

-- no row is walked
pub list_start : {ss : Sorts} (f : Act ss) (ws : List ℕ) (at : ℕ) (before : Marks) → ListRead f ws at (at + 1) 0 before before
list_start f ws at before = record { gives = λ ns n rs end s c. record { left = rs; there = s; few = omega arith; from = omega arith; is = λ x. refl } }

-- the next row stands at a, behind the list's head
pub list_next : {ss : Sorts} {f : Act ss} {ws : List ℕ} {at a i : ℕ} {before now : Marks} → SomeTree (one (many ss)) ws at → ListRead f ws at a i before now → i < pay_of (get_or ws at 0) → SomeTree (row ss) ws a × (at < a)
list_next {ws = ws} A R h =
    let I = in_list ws A.names A.strings A.stands in
    let L = R.gives A.names A.strings I.items A.end I.there I.counted in
    let M = in_more ws A.names A.strings (omega (arith, L.few, I.counted)) L.there in
    (record { names = A.names; strings = A.strings; tree = M.head; end = M.mid; stands = M.there }, omega (arith, L.from))

act_more : {ss : Sorts} (f : Act ss) (x : ℕ) {rs : Tree Expr (rows ss)} (r : Tree Expr (row ss)) (t : Tree Expr (rows ss)) → rs ≡ more r t → (m : Mark) → act_rows f x t (f x r m) ≡ act_rows f x rs m
unfolding act_rows
act_more f x r t e m = ap (λ (z : Tree Expr (rows _)). act_rows f x z m) (sym e)

-- one more walked
pub list_step : {ss : Sorts} {f : Act ss} {ws : List ℕ} {at a i a' : ℕ} {before now after : Marks} → ListRead f ws at a i before now → i < pay_of (get_or ws at 0) → ((ns : List ℕ) (n : ℕ) (r : Tree Expr (row ss)) (end : ℕ) → Stands ws ns n a r end → ((x : ℕ) → after x ≡ f x r (now x)) × (a' ≡ end)) → ListRead f ws at a' (i + 1) before after
list_step {f = f} {ws} {now = now} R h d = record {
  gives = λ ns n rs end s c.
      let L = R.gives ns n rs end s c in
      let M = in_more ws ns n (omega (arith, L.few, c)) L.there in
      let D = d ns n M.head M.mid M.there in
      let t = M.there in
      record {
        left = M.tail;
        there = rw D.1 M.next;
        few = omega (arith, L.few, M.counted);
        from = omega (arith, L.from, D.1, t.wrote.span);
        is = λ x. ap (act_rows f x M.tail) (D.0 x) ∙ act_more f x M.head M.tail M.is (now x) ∙ L.is x;
      };
}

-- all of them
pub list_done : {ss : Sorts} {f : Act ss} {ws : List ℕ} {at a i : ℕ} {before after : Marks} → ListRead f ws at a i before after → pay_of (get_or ws at 0) ≤ i → (ns : List ℕ) (n : ℕ) (rs : Tree Expr (rows ss)) (end : ℕ) → Stands ws ns n (at + 1) rs end → count rs ≡ pay_of (get_or ws at 0) → ((x : ℕ) → after x ≡ act_rows f x rs (before x)) × (a ≡ end)
unfolding count words_t act_rows
list_done {ss} {f} {ws} {at} {a} {i} {before} {after} R h ns n rs end s c = let L = R.gives ns n rs end s c in go L.left L.there (omega (arith, L.few, c)) L.is
  where
    go : (left : Tree Expr (rows ss)) → Stands ws ns n a left end → count left ≡ 0 → ((x : ℕ) → act_rows f x left (after x) ≡ act_rows f x rs (before x)) → ((x : ℕ) → after x ≡ act_rows f x rs (before x)) × (a ≡ end)
    go none t z q = (q, omega (arith, t.wrote.span))
    go (more r rs) t z q = absurd (omega arith)

-- ---- the items of PRINT

-- what a row with own expressions does: these are noted at k
abbrev pub act_own : (k : ℕ) {ss : Sorts} → Act ss
act_own k x r m = noted k (first_of (in_expr x) (own r)) m

own_rows : (k : ℕ) {ss : Sorts} (x : ℕ) (rs : Tree Expr (rows ss)) (m : Mark) → act_rows (act_own k) x rs m ≡ noted k (first_of (in_expr x) (own rs)) m
unfolding own act_rows first_of noted
own_rows k x none m = refl
own_rows k x (more r rs) m =
    own_rows k x rs (noted k (first_of (in_expr x) (own r)) m)
    ∙ noted_same k (first_of (in_expr x) (own r)) (first_of (in_expr x) (own rs)) m
    ∙ ap (λ (o : Option ℕ). noted k o m) (sym (first_of_append (in_expr x) (own r) (own rs)))

-- i of n items walked, up to a
pub record ItemsRead (ws : List ℕ) (at n k : ℕ) (before now : Marks) (a i : ℕ) : Type 0 where
  all : n ≡ pay_of (get_or ws at 0)
  read : ListRead {ss = PrintItem & nil} (act_own k) ws at a i before now

-- none is walked
pub items_start : (ws : List ℕ) (at k : ℕ) (before : Marks) → ItemsRead ws at (pay_of (get_or ws at 0)) k before before (at + 1) 0
items_start ws at k before = record { all = refl; read = list_start (act_own k) ws at before }

module _ {ws : List ℕ} {at n k : ℕ} {before now : Marks} {a i : ℕ} (R : ItemsRead ws at n k before now a i) where
  -- the next item stands where the last one ended
  pub items_next : SomeTree (one (many (PrintItem & nil))) ws at → i < n → SomeTree (row (PrintItem & nil)) ws a
  items_next A h = (list_next A R.read (omega (arith, R.all))).0

  -- one more walked
  pub items_step : {after : Marks} {a' : ℕ} → i < n → NotesOwn (row (PrintItem & nil)) ws a k now after a' → ItemsRead ws at n k before after a' (i + 1)
  items_step h E = record { all = R.all; read = list_step R.read (omega (arith, R.all)) (λ ns c r end t. E.gives ns c r end t) }

  -- all are walked
  pub items_done : n ≤ i → NotesOwn (one (many (PrintItem & nil))) ws at k before now a
  unfolding own
  items_done h = record { gives = λ ns c v end t. go ns c v end (in_list ws ns c t) }
    where
      go : (ns : List ℕ) (c : ℕ) (v : Tree Expr (one (many (PrintItem & nil)))) (end : ℕ) → InList ws ns c at v end → ((x : ℕ) → now x ≡ noted k (first_of (in_expr x) (own v)) (before x)) × (a ≡ end)
      go ns c v end I =
          let D = list_done R.read (omega (arith, R.all)) ns c I.items end I.there I.counted in
          (λ x. D.0 x ∙ own_rows k x I.items (before x) ∙ ap (λ (y : Tree Expr (one (many (PrintItem & nil)))). noted k (first_of (in_expr x) (own y)) (before x)) (sym I.is), D.1)
