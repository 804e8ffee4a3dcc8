-- Statements of the kinds with targets, or with expressions in another order than their words: the notes of the parts are those of the statement. Assumes nothing.
use Prim.Native.Nat.{ℕ, ◌+◌, ◌<◌, ◌≤◌}
use native.Mathlib.Omega.{arith}
use mathlib.Core.Path.{◌≡◌, refl, sym, ap, ap₂, ◌∙◌}
use mathlib.Core.List.{List, [], ◌∷◌, ◌++◌}
use mathlib.Core.Option.{Option}
use lib.ListN.{length, get_or}
use Rattle.base_words.specs.Word.{kind_of, pay_of}
use Rattle.tree_expr.specs.Expr.{Expr}
use Rattle.tree_expr.specs.Stands as W
use Rattle.tree_expr.proofs.Parts.{wrote_first, pay_is}
use Rattle.tree_expr.proofs.Nodes.{within}
use Rattle.tree_stmt.specs.Sorts.{expr, stmt, many, nil, ◌&◌, opt, exprs, quoted, PrintItem, LValue as LValueRow, sorts, kind_at, kinds, let', print, input, line_input, swap, read}
use Rattle.tree_stmt.specs.Tree.{strings, one, row, Tree, word, value, Stmt, list, part, this, that, done, cons, words_t, Right}
use Rattle.tree_stmt.specs.Stands.{Stands, SomeTree}
use Rattle.tree_stmt.proofs.Nodes.{cons_left, cons_right, cons_last, part_row, value_there}
use Rattle.tree_skip.specs.Shape.{SomeExpr}
use Rattle.tree_views.specs.View.{LValue, lvalue, optional, expressions, items}
use Rattle.tree_views.specs.Uses.{own, uses}
use Rattle.collect_subscript_count.specs.Subscripts.{or_else, first_of, in_expr, in_lvalue, in_stmt, subscript_count}
use Rattle.collect_subscript_count.specs.Notes.{Mark, noted, Noted}
use Rattle.collect_subscript_count.specs.Code.{Marks, NotesExpr, NotesOwn, IndexedAt, NotesIndexed, NotesTarget, NotesTargets, KindAt, NotesStmt}
use Rattle.collect_subscript_count.proofs.Marks.{noted_same, noted_swap, noted_at, noted_as, noted_join}
use Rattle.collect_subscript_count.proofs.Expressions.{or_else_none, first_of_append}
use Rattle.collect_subscript_count.proofs.Lists.{moved}
use Rattle.collect_subscript_count.proofs.ByKind.{used_in, quiet_s, quiet_r, stmt_quiet, of_kind}

-- ---- uses at places of a statement

-- uses at `at` and then at the next place
noted_two : {at end : ℕ} (a b : Option ℕ) {m₀ m₁ m₂ : Mark} → at + 2 ≤ end → m₁ ≡ noted at a m₀ → m₂ ≡ noted (at + 1) b m₁ → Noted at end (or_else a b) m₀ m₂
noted_two {at} {end} a b h p q = noted_join {mid = at + 1} (omega arith) (omega (arith, h)) (noted_at at a (omega arith) (omega arith) p) (noted_at (at + 1) b (omega arith) (omega (arith, h)) q)

-- a use at `at`, then one at the second place after it, then one between them
noted_three : {at end : ℕ} (a b c : Option ℕ) {m₀ m₁ m₂ m₃ : Mark} → at + 3 ≤ end → m₁ ≡ noted at a m₀ → m₂ ≡ noted (at + 2) c m₁ → m₃ ≡ noted (at + 1) b m₂ → Noted at end (or_else a (or_else b c)) m₀ m₃
noted_three {at} {end} a b c {m₁ = m₁} h p q r =
    let t : at + 1 < at + 2 = omega arith in
    let between = noted_at {lo = at + 1} {hi = at + 2} (at + 1) b {before = m₁} (omega arith) (omega arith) refl in
    let last = noted_at {lo = at + 2} {hi = end} (at + 2) c (omega arith) (omega (arith, h)) (r ∙ ap (noted (at + 1) b) q ∙ noted_swap t b c m₁) in
    noted_join {mid = at + 1} (omega arith) (omega (arith, h)) (noted_at at a (omega arith) (omega arith) p) (noted_join (omega arith) (omega (arith, h)) between last)

-- a target has a name
target_moves : {ws ns : List ℕ} {n at end : ℕ} {v : Tree Expr (row LValueRow)} → Stands ws ns n at v end → at + 1 ≤ end
unfolding words_t
target_moves {v = cons (word x) r} s = let w = s.wrote.span in omega (arith, w)

-- ---- LET

record InLet (ws : List ℕ) (at : ℕ) (ns : List ℕ) (n end : ℕ) (v : Tree Expr (one stmt)) : Type 0 where
  is : Tree Expr (one (opt (exprs & nil)))
  mid : ℕ
  value_is : Expr
  indices : Stands ws ns n (at + 1 + 1) is mid
  there : W.Stands ws (strings ns n) mid value_is end
  count : (x : ℕ) → subscript_count used_in x v ≡ or_else (in_lvalue x (record { name = pay_of (get_or ws (at + 1) 0); indices = optional expressions is })) (or_else (first_of (in_expr x) (own is)) (in_expr x value_is))

let_fields : {ws : List ℕ} {at : ℕ} {ns : List ℕ} {n end : ℕ} (line : ℕ) (r : Tree Expr (row (sorts let'))) → Stands ws ns n (at + 1) r end → InLet ws at ns n end (Stmt let' line r)
unfolding sorts uses own words_t Right in_stmt first_of quiet_r quiet_s or_else
let_fields {ws} {at} {ns} {n} {end} line (cons (word x) (cons is (cons (value e) done))) s =
    let f = wrote_first s.wrote in
    let t : Stands ws ns n (at + 1 + 1) (cons is (cons (value e) done)) end = record { wrote = f.rest; valid = s.valid.1 } in
    let T : LValue Expr = record { name = x; indices = optional expressions is } in
    let p : pay_of (get_or ws (at + 1) 0) ≡ x = ap pay_of f.is ∙ pay_is 2 x s.valid.0.1 in
    let q : (y : ℕ) → first_of (in_expr y) (own is ++ (e ∷ [])) ≡ or_else (first_of (in_expr y) (own is)) (in_expr y e) = λ y. first_of_append (in_expr y) (own is) (e ∷ []) ∙ ap (or_else (first_of (in_expr y) (own is))) (or_else_none (in_expr y e)) in
    record {
      is = is;
      mid = _;
      value_is = e;
      indices = cons_left t;
      there = value_there (cons_last (cons_right t));
      count = λ y. stmt_quiet y let' line (cons (word x) (cons is (cons (value e) done))) refl ∙ ap₂ or_else (or_else_none (in_lvalue y T) ∙ ap (λ (z : ℕ). in_lvalue y (record { name = z; indices = optional expressions is })) (sym p)) (q y);
    }

in_let : {ws : List ℕ} {at : ℕ} {ns : List ℕ} {n end : ℕ} {v : Tree Expr (one stmt)} → kind_of (get_or ws at 0) ≡ 66 → Stands ws ns n at v end → InLet ws at ns n end v
unfolding kind_at kinds
in_let {ws} {at} {ns} {n} {end} q s = of_kind 2 (λ v. InLet ws at ns n end v) (λ line r t. let_fields line r t) q s

module _ {ws : List ℕ} {at : ℕ} where
  -- its name and indices stand after the head
  pub let_there : KindAt 2 ws at → IndexedAt ws (at + 1)
  let_there A = let i = in_let A.kind A.some.stands in record { some = record { names = A.some.names; strings = A.some.strings; tree = i.is; end = i.mid; stands = i.indices } }

  -- its value after them
  pub let_value : {k j next : ℕ} {before after : Marks} → KindAt 2 ws at → NotesIndexed ws (at + 1) k j before after next → SomeExpr ws next
  let_value {next = next} A T =
      let i = in_let A.kind A.some.stands in
      let q : next ≡ i.mid = (T.gives A.some.names A.some.strings i.is i.mid i.indices).1 in
      record { strings = strings A.some.names A.some.strings; expr = i.value_is; end = A.some.end; stands = rw q i.there }

  -- the target, then the indices, then the value
  pub let_done : {mid next : ℕ} {before between after : Marks} → KindAt 2 ws at → NotesIndexed ws (at + 1) at at before between mid → NotesExpr ws mid at between after next → NotesStmt ws at before after next
  let_done {before = before} A T E = record {
    gives = λ ns n v end s.
        let i = in_let A.kind s in
        let g = T.gives ns n i.is i.mid i.indices in
        let h = E.gives (strings ns n) i.value_is end (rw g.1 i.there) in
        let a : ℕ → Option ℕ = λ x. in_lvalue x (record { name = pay_of (get_or ws (at + 1) 0); indices = optional expressions i.is }) in
        let b : ℕ → Option ℕ = λ x. first_of (in_expr x) (own i.is) in
        let c : ℕ → Option ℕ = λ x. in_expr x i.value_is in
        let more : at + 1 ≤ end = omega (arith, i.indices.wrote.span, (within i.there).moves) in
        (λ x. noted_as (sym (i.count x)) (noted_at at (or_else (a x) (or_else (b x) (c x))) (omega arith) (omega (arith, more)) (h.0 x ∙ ap (noted at (c x)) (g.0 x) ∙ noted_same at (b x) (c x) (noted at (a x) (before x)) ∙ noted_same at (a x) (or_else (b x) (c x)) (before x))), h.1);
  }

-- ---- PRINT

record InPrint (ws : List ℕ) (at : ℕ) (ns : List ℕ) (n end : ℕ) (v : Tree Expr (one stmt)) : Type 0 where
  file : Tree Expr (one (opt (expr & nil)))
  its : Tree Expr (one (many (PrintItem & nil)))
  pattern : Tree Expr (one (opt (expr & nil)))
  a : ℕ
  b : ℕ
  c : ℕ
  file_there : Stands ws ns n (at + 1) file a
  items_there : Stands ws ns n a its b
  pattern_there : Stands ws ns n (b + 1) pattern c
  to : c + 1 ≡ end
  count : (x : ℕ) → subscript_count used_in x v ≡ or_else (first_of (in_expr x) (own file)) (or_else (first_of (in_expr x) (own pattern)) (first_of (in_expr x) (own its)))

print_fields : {ws : List ℕ} {at : ℕ} {ns : List ℕ} {n end : ℕ} (line : ℕ) (r : Tree Expr (row (sorts print))) → Stands ws ns n (at + 1) r end → InPrint ws at ns n end (Stmt print line r)
unfolding sorts uses words_t Right in_stmt first_of quiet_r quiet_s or_else
print_fields {ws} {at} {ns} {n} {end} line (cons file (cons its (cons (word x) (cons pattern (cons (word y) done))))) s =
    let s₁ = cons_right s in
    let s₂ = cons_right s₁ in
    let s₃ = cons_right s₂ in
    let s₄ = cons_right s₃ in
    record {
      file = file;
      its = its;
      pattern = pattern;
      a = _;
      b = _;
      c = _;
      file_there = cons_left s;
      items_there = cons_left s₁;
      pattern_there = cons_left s₃;
      to = s₄.wrote.span;
      count = λ z. stmt_quiet z print line (cons file (cons its (cons (word x) (cons pattern (cons (word y) done))))) refl ∙ first_of_append (in_expr z) (own file) (own pattern ++ own its) ∙ ap (or_else (first_of (in_expr z) (own file))) (first_of_append (in_expr z) (own pattern) (own its));
    }

in_print : {ws : List ℕ} {at : ℕ} {ns : List ℕ} {n end : ℕ} {v : Tree Expr (one stmt)} → kind_of (get_or ws at 0) ≡ 67 → Stands ws ns n at v end → InPrint ws at ns n end v
unfolding kind_at kinds
in_print {ws} {at} {ns} {n} {end} q s = of_kind 3 (λ v. InPrint ws at ns n end v) (λ line r t. print_fields line r t) q s

module _ {ws : List ℕ} {at : ℕ} where
  -- its file number stands after the head
  pub print_file : KindAt 3 ws at → SomeTree (one (opt (expr & nil))) ws (at + 1)
  print_file A = let i = in_print A.kind A.some.stands in record { names = A.some.names; strings = A.some.strings; tree = i.file; end = i.a; stands = i.file_there }

  module _ {f : ℕ} {m₀ m₁ : Marks} (A : KindAt 3 ws at) (F : NotesOwn (one (opt (expr & nil))) ws (at + 1) at m₀ m₁ f) where
    -- its items after that
    pub print_items : SomeTree (one (many (PrintItem & nil))) ws f
    print_items =
        let i = in_print A.kind A.some.stands in
        let q : f ≡ i.a = (F.gives A.some.names A.some.strings i.file i.a i.file_there).1 in
        record { names = A.some.names; strings = A.some.strings; tree = i.its; end = i.b; stands = rw q i.items_there }

    module _ {l : ℕ} {m₂ : Marks} (L : NotesOwn (one (many (PrintItem & nil))) ws f (at + 2) m₁ m₂ l) where
      -- its USING after the items and a flag
      pub print_pattern : SomeTree (one (opt (expr & nil))) ws (l + 1)
      print_pattern =
          let i = in_print A.kind A.some.stands in
          let q : f ≡ i.a = (F.gives A.some.names A.some.strings i.file i.a i.file_there).1 in
          let p : l ≡ i.b = (L.gives A.some.names A.some.strings i.its i.b (rw q i.items_there)).1 in
          record { names = A.some.names; strings = A.some.strings; tree = i.pattern; end = i.c; stands = rw p i.pattern_there }

      -- this flag is within the words
      pub print_fits : l + 1 ≤ length ws
      print_fits = let s = print_pattern.stands.wrote in omega (arith, s.span, s.inside)

      module _ {p : ℕ} {m₃ : Marks} (P : NotesOwn (one (opt (expr & nil))) ws (l + 1) (at + 1) m₂ m₃ p) where
        -- so is the last one
        pub print_ends : p + 1 ≤ length ws
        print_ends =
            let i = in_print A.kind A.some.stands in
            let q : f ≡ i.a = (F.gives A.some.names A.some.strings i.file i.a i.file_there).1 in
            let o : l ≡ i.b = (L.gives A.some.names A.some.strings i.its i.b (rw q i.items_there)).1 in
            let e : p ≡ i.c = (P.gives A.some.names A.some.strings i.pattern i.c (rw o i.pattern_there)).1 in
            let w = A.some.stands.wrote in
            omega (arith, e, i.to, w.inside)

        -- the file number, then USING, then the items
        pub print_done : NotesStmt ws at m₀ m₃ (p + 1)
        print_done = record {
          gives = λ ns n v end s.
              let i = in_print A.kind s in
              let F' = F.gives ns n i.file i.a i.file_there in
              let L' = L.gives ns n i.its i.b (rw F'.1 i.items_there) in
              let P' = P.gives ns n i.pattern i.c (rw L'.1 i.pattern_there) in
              let long : at + 3 ≤ end = omega (arith, i.file_there.wrote.span, i.items_there.wrote.span, i.pattern_there.wrote.span, i.to) in
              (λ x. noted_as (sym (i.count x)) (noted_three (first_of (in_expr x) (own i.file)) (first_of (in_expr x) (own i.pattern)) (first_of (in_expr x) (own i.its)) long (F'.0 x) (L'.0 x) (P'.0 x)), omega (arith, P'.1, i.to));
        }

-- ---- INPUT

-- a prompt is one word, there or not
prompt_one : (p : Tree Expr (one (opt (quoted & nil)))) → length (words_t p) ≡ 1
unfolding words_t
prompt_one (this done) = refl
prompt_one (that (part (cons (word x) done))) = refl

record InInput (ws : List ℕ) (at : ℕ) (ns : List ℕ) (n end : ℕ) (v : Tree Expr (one stmt)) : Type 0 where
  vars : Tree Expr (one (many LValueRow))
  file : Tree Expr (one (opt (expr & nil)))
  a : ℕ
  vars_there : Stands ws ns n (at + 3) vars a
  file_there : Stands ws ns n a file end
  count : (x : ℕ) → subscript_count used_in x v ≡ or_else (first_of (in_lvalue x) (items lvalue vars)) (or_else (first_of (in_expr x) (own file)) (first_of (in_expr x) (own vars)))

input_fields : {ws : List ℕ} {at : ℕ} {ns : List ℕ} {n end : ℕ} (line : ℕ) (r : Tree Expr (row (sorts input))) → Stands ws ns n (at + 1) r end → InInput ws at ns n end (Stmt input line r)
unfolding sorts uses words_t in_stmt first_of quiet_r quiet_s
input_fields {ws} {at} {ns} {n} {end} line (cons prompt (cons (word x) (cons vars (cons file done)))) s =
    let s₁ = cons_right s in
    let s₂ = cons_right s₁ in
    let q : at + 1 + length (words_t prompt) + 1 ≡ at + 3 = omega (arith, prompt_one prompt) in
    let s₃ : Stands ws ns n (at + 3) (cons vars (cons file done)) end = moved q s₂ in
    record {
      vars = vars;
      file = file;
      a = _;
      vars_there = cons_left s₃;
      file_there = cons_last (cons_right s₃);
      count = λ y. stmt_quiet y input line (cons prompt (cons (word x) (cons vars (cons file done)))) refl ∙ ap (or_else (first_of (in_lvalue y) (items lvalue vars))) (first_of_append (in_expr y) (own file) (own vars));
    }

in_input : {ws : List ℕ} {at : ℕ} {ns : List ℕ} {n end : ℕ} {v : Tree Expr (one stmt)} → kind_of (get_or ws at 0) ≡ 68 → Stands ws ns n at v end → InInput ws at ns n end v
unfolding kind_at kinds
in_input {ws} {at} {ns} {n} {end} q s = of_kind 4 (λ v. InInput ws at ns n end v) (λ line r t. input_fields line r t) q s

module _ {ws : List ℕ} {at : ℕ} where
  -- its targets stand after the head, the prompt and a flag
  pub input_there : KindAt 4 ws at → SomeTree (one (many LValueRow)) ws (at + 3)
  input_there A = let i = in_input A.kind A.some.stands in record { names = A.some.names; strings = A.some.strings; tree = i.vars; end = i.a; stands = i.vars_there }

  -- its file number after them
  pub input_file : {k j next : ℕ} {before after : Marks} → KindAt 4 ws at → NotesTargets ws (at + 3) k j before after next → SomeTree (one (opt (expr & nil))) ws next
  input_file {next = next} A T =
      let i = in_input A.kind A.some.stands in
      let q : next ≡ i.a = (T.gives A.some.names A.some.strings i.vars i.a i.vars_there).1 in
      record { names = A.some.names; strings = A.some.strings; tree = i.file; end = A.some.end; stands = rw q i.file_there }

  -- the targets, then the file number, then the indices
  pub input_done : {mid next : ℕ} {before between after : Marks} → KindAt 4 ws at → NotesTargets ws (at + 3) at (at + 2) before between mid → NotesOwn (one (opt (expr & nil))) ws mid (at + 1) between after next → NotesStmt ws at before after next
  input_done A T F = record {
    gives = λ ns n v end s.
        let i = in_input A.kind s in
        let g = T.gives ns n i.vars i.a i.vars_there in
        let h = F.gives ns n i.file end (rw g.1 i.file_there) in
        let long : at + 3 ≤ end = omega (arith, i.vars_there.wrote.span, i.file_there.wrote.span) in
        (λ x. noted_as (sym (i.count x)) (noted_three (first_of (in_lvalue x) (items lvalue i.vars)) (first_of (in_expr x) (own i.file)) (first_of (in_expr x) (own i.vars)) long refl (g.0 x) (h.0 x)), h.1);
  }

-- ---- LINE INPUT

record InLine (ws : List ℕ) (at : ℕ) (ns : List ℕ) (n end : ℕ) (v : Tree Expr (one stmt)) : Type 0 where
  var : Tree Expr (row LValueRow)
  file : Tree Expr (one (opt (expr & nil)))
  a : ℕ
  var_there : Stands ws ns n (at + 2) var a
  file_there : Stands ws ns n a file end
  count : (x : ℕ) → subscript_count used_in x v ≡ or_else (in_lvalue x (lvalue var)) (or_else (first_of (in_expr x) (own file)) (first_of (in_expr x) (own var)))

line_fields : {ws : List ℕ} {at : ℕ} {ns : List ℕ} {n end : ℕ} (line : ℕ) (r : Tree Expr (row (sorts line_input))) → Stands ws ns n (at + 1) r end → InLine ws at ns n end (Stmt line_input line r)
unfolding sorts uses words_t in_stmt first_of quiet_r quiet_s
line_fields {ws} {at} {ns} {n} {end} line (cons prompt (cons (part var) (cons file done))) s =
    let q : at + 1 + length (words_t prompt) ≡ at + 2 = omega (arith, prompt_one prompt) in
    let s₁ : Stands ws ns n (at + 2) (cons (part var) (cons file done)) end = moved q (cons_right s) in
    record {
      var = var;
      file = file;
      a = _;
      var_there = part_row (cons_left s₁);
      file_there = cons_last (cons_right s₁);
      count = λ x. stmt_quiet x line_input line (cons prompt (cons (part var) (cons file done))) refl ∙ ap₂ or_else (or_else_none (in_lvalue x (lvalue var))) (first_of_append (in_expr x) (own file) (own var));
    }

in_line : {ws : List ℕ} {at : ℕ} {ns : List ℕ} {n end : ℕ} {v : Tree Expr (one stmt)} → kind_of (get_or ws at 0) ≡ 69 → Stands ws ns n at v end → InLine ws at ns n end v
unfolding kind_at kinds
in_line {ws} {at} {ns} {n} {end} q s = of_kind 5 (λ v. InLine ws at ns n end v) (λ line r t. line_fields line r t) q s

module _ {ws : List ℕ} {at : ℕ} where
  -- its target stands after the head and the prompt
  pub line_there : KindAt 5 ws at → SomeTree (row LValueRow) ws (at + 2)
  line_there A = let i = in_line A.kind A.some.stands in record { names = A.some.names; strings = A.some.strings; tree = i.var; end = i.a; stands = i.var_there }

  -- its file number after it
  pub line_file : {k j next : ℕ} {before after : Marks} → KindAt 5 ws at → NotesTarget ws (at + 2) k j before after next → SomeTree (one (opt (expr & nil))) ws next
  line_file {next = next} A T =
      let i = in_line A.kind A.some.stands in
      let q : next ≡ i.a = (T.gives A.some.names A.some.strings i.var i.a i.var_there).1 in
      record { names = A.some.names; strings = A.some.strings; tree = i.file; end = A.some.end; stands = rw q i.file_there }

  -- the target, then the file number, then the indices
  pub line_done : {mid next : ℕ} {before between after : Marks} → KindAt 5 ws at → NotesTarget ws (at + 2) at (at + 2) before between mid → NotesOwn (one (opt (expr & nil))) ws mid (at + 1) between after next → NotesStmt ws at before after next
  line_done A T F = record {
    gives = λ ns n v end s.
        let i = in_line A.kind s in
        let g = T.gives ns n i.var i.a i.var_there in
        let h = F.gives ns n i.file end (rw g.1 i.file_there) in
        let long : at + 3 ≤ end = omega (arith, target_moves i.var_there, i.file_there.wrote.span) in
        (λ x. noted_as (sym (i.count x)) (noted_three (in_lvalue x (lvalue i.var)) (first_of (in_expr x) (own i.file)) (first_of (in_expr x) (own i.var)) long refl (g.0 x) (h.0 x)), h.1);
  }

-- ---- SWAP

record InSwap (ws : List ℕ) (at : ℕ) (ns : List ℕ) (n end : ℕ) (v : Tree Expr (one stmt)) : Type 0 where
  left : Tree Expr (row LValueRow)
  right : Tree Expr (row LValueRow)
  a : ℕ
  left_there : Stands ws ns n (at + 1) left a
  right_there : Stands ws ns n a right end
  count : (x : ℕ) → subscript_count used_in x v ≡ or_else (or_else (in_lvalue x (lvalue left)) (in_lvalue x (lvalue right))) (or_else (first_of (in_expr x) (own left)) (first_of (in_expr x) (own right)))

swap_fields : {ws : List ℕ} {at : ℕ} {ns : List ℕ} {n end : ℕ} (line : ℕ) (r : Tree Expr (row (sorts swap))) → Stands ws ns n (at + 1) r end → InSwap ws at ns n end (Stmt swap line r)
unfolding sorts uses in_stmt first_of quiet_r quiet_s
swap_fields {ws} {at} {ns} {n} {end} line (cons (part v) (cons (part w) done)) s = record {
  left = v;
  right = w;
  a = _;
  left_there = part_row (cons_left s);
  right_there = part_row (cons_last (cons_right s));
  count = λ x. stmt_quiet x swap line (cons (part v) (cons (part w) done)) refl ∙ ap₂ or_else (ap (or_else (in_lvalue x (lvalue v))) (or_else_none (in_lvalue x (lvalue w)))) (first_of_append (in_expr x) (own v) (own w));
}

in_swap : {ws : List ℕ} {at : ℕ} {ns : List ℕ} {n end : ℕ} {v : Tree Expr (one stmt)} → kind_of (get_or ws at 0) ≡ 88 → Stands ws ns n at v end → InSwap ws at ns n end v
unfolding kind_at kinds
in_swap {ws} {at} {ns} {n} {end} q s = of_kind 24 (λ v. InSwap ws at ns n end v) (λ line r t. swap_fields line r t) q s

-- two targets and the indices of both
swap_marks : (at : ℕ) (a b c d : Option ℕ) (m₀ : Mark) {m₁ m₂ : Mark} → m₁ ≡ noted (at + 1) c (noted at a m₀) → m₂ ≡ noted (at + 1) d (noted at b m₁) → m₂ ≡ noted (at + 1) (or_else c d) (noted at (or_else a b) m₀)
swap_marks at a b c d m₀ p q =
    let t : at < at + 1 = omega arith in
    q ∙ ap (λ (m : Mark). noted (at + 1) d (noted at b m)) p ∙ ap (noted (at + 1) d) (noted_swap t b c (noted at a m₀)) ∙ noted_same (at + 1) c d (noted at b (noted at a m₀)) ∙ ap (noted (at + 1) (or_else c d)) (noted_same at a b m₀)

module _ {ws : List ℕ} {at : ℕ} where
  -- its first target stands after the head
  pub swap_there : KindAt 24 ws at → SomeTree (row LValueRow) ws (at + 1)
  swap_there A = let i = in_swap A.kind A.some.stands in record { names = A.some.names; strings = A.some.strings; tree = i.left; end = i.a; stands = i.left_there }

  -- the other after it
  pub swap_next : {k j next : ℕ} {before after : Marks} → KindAt 24 ws at → NotesTarget ws (at + 1) k j before after next → SomeTree (row LValueRow) ws next
  swap_next {next = next} A T =
      let i = in_swap A.kind A.some.stands in
      let q : next ≡ i.a = (T.gives A.some.names A.some.strings i.left i.a i.left_there).1 in
      record { names = A.some.names; strings = A.some.strings; tree = i.right; end = A.some.end; stands = rw q i.right_there }

  -- both targets, then the indices of both
  pub swap_done : {mid next : ℕ} {before between after : Marks} → KindAt 24 ws at → NotesTarget ws (at + 1) at (at + 1) before between mid → NotesTarget ws mid at (at + 1) between after next → NotesStmt ws at before after next
  swap_done {before = before} A T U = record {
    gives = λ ns n v end s.
        let i = in_swap A.kind s in
        let g = T.gives ns n i.left i.a i.left_there in
        let h = U.gives ns n i.right end (rw g.1 i.right_there) in
        let long : at + 2 ≤ end = omega (arith, target_moves i.left_there, i.right_there.wrote.span) in
        let a : ℕ → Option ℕ = λ x. in_lvalue x (lvalue i.left) in
        let b : ℕ → Option ℕ = λ x. in_lvalue x (lvalue i.right) in
        let c : ℕ → Option ℕ = λ x. first_of (in_expr x) (own i.left) in
        let d : ℕ → Option ℕ = λ x. first_of (in_expr x) (own i.right) in
        (λ x. noted_as (sym (i.count x)) (noted_two (or_else (a x) (b x)) (or_else (c x) (d x)) long refl (swap_marks at (a x) (b x) (c x) (d x) (before x) (g.0 x) (h.0 x))), h.1);
  }

-- ---- READ

record InRead (ws : List ℕ) (at : ℕ) (ns : List ℕ) (n end : ℕ) (v : Tree Expr (one stmt)) : Type 0 where
  vars : Tree Expr (one (many LValueRow))
  there : Stands ws ns n (at + 1) vars end
  long : at + 2 ≤ end
  count : (x : ℕ) → subscript_count used_in x v ≡ or_else (first_of (in_lvalue x) (items lvalue vars)) (first_of (in_expr x) (own vars))

read_fields : {ws : List ℕ} {at : ℕ} {ns : List ℕ} {n end : ℕ} (line : ℕ) (r : Tree Expr (row (sorts read))) → Stands ws ns n (at + 1) r end → InRead ws at ns n end (Stmt read line r)
unfolding sorts uses in_stmt quiet_r quiet_s words_t
read_fields line (cons (list rs) done) s = let t = cons_last s in record { vars = list rs; there = t; long = omega (arith, t.wrote.span); count = λ x. stmt_quiet x read line (cons (list rs) done) refl }

in_read : {ws : List ℕ} {at : ℕ} {ns : List ℕ} {n end : ℕ} {v : Tree Expr (one stmt)} → kind_of (get_or ws at 0) ≡ 96 → Stands ws ns n at v end → InRead ws at ns n end v
unfolding kind_at kinds
in_read {ws} {at} {ns} {n} {end} q s = of_kind 32 (λ v. InRead ws at ns n end v) (λ line r t. read_fields line r t) q s

module _ {ws : List ℕ} {at : ℕ} where
  -- its targets stand after the head
  pub read_there : KindAt 32 ws at → SomeTree (one (many LValueRow)) ws (at + 1)
  read_there A = let i = in_read A.kind A.some.stands in record { names = A.some.names; strings = A.some.strings; tree = i.vars; end = A.some.end; stands = i.there }

  -- the targets, then the indices
  pub read_done : {next : ℕ} {before after : Marks} → KindAt 32 ws at → NotesTargets ws (at + 1) at (at + 1) before after next → NotesStmt ws at before after next
  read_done A T = record {
    gives = λ ns n v end s.
        let i = in_read A.kind s in
        let g = T.gives ns n i.vars end i.there in
        (λ x. noted_as (sym (i.count x)) (noted_two (first_of (in_lvalue x) (items lvalue i.vars)) (first_of (in_expr x) (own i.vars)) i.long refl (g.0 x)), g.1);
  }
