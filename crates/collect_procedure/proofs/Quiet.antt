-- A body in which no list stands right after a name never subscripts it. Laws by induction on the tree. Assumes nothing.
use Prim.Native.Nat.{ℕ, ◌+◌, ◌<◌}
use native.Mathlib.Omega.{arith}
use mathlib.Core.Path.{◌≡◌, refl, ap, ap₂, ◌∙◌}
use mathlib.Core.Bool.{Bool, false}
use mathlib.Core.List.{List, [], ◌∷◌, ◌++◌}
use mathlib.Core.Option.{Option, none as nothing}
use lib.Dec.{eqb}
use lib.ListN.{get_or}
use borrow.Author.Tests.{ne_eqb}
use Rattle.base_words.specs.Word.{word_of, kind_of, pick}
use Rattle.base_words.specs.Each.{Each}
use Rattle.tree_expr.specs.Expr.{Strings, Expr, Exprs, Lit, Var, Elem, Unary, Binary, Call, Field, Paren, none, more, many, words, words_all, Valid, Valids}
use Rattle.tree_expr.specs.Stands.{Wrote}
use Rattle.tree_expr.proofs.Parts.{wrote_first, kind_is}
use Rattle.tree_stmt.specs.Sorts.{Sort, Sorts, nil, ◌&◌, opt, exprs, many as many_sort, LValue as LValueRow, body as body_sort, Kind, sorts, let', print, input, line_input, swap, read}
use Rattle.tree_stmt.specs.KindLaws.{by_kind}
use Rattle.tree_stmt.specs.Tree.{strings, Shape, one, row, rows, Tree, word, value, Stmt, list, part, this, that, done, cons, none as no_rows, more as add_row, count, words_t, Right}
use Rattle.tree_stmt.specs.Stands.{Stands}
use Rattle.tree_views.specs.View.{lvalue, optional, expressions, items, rows_of}
use Rattle.tree_views.specs.Uses.{own, plain, uses}
use Rattle.tree_views.specs.KindLaws.{target_kinds, uses_plain}
use Rattle.collect_subscript_count.specs.Subscripts.{or_else, first_of, subscripted, in_expr, in_exprs, indexed, in_lvalue, in_stmt, subscript_count}
use Rattle.collect_subscript_count.proofs.Expressions.{pick_none, first_of_append}
use Rattle.collect_procedure.specs.Post.{Quiet}

-- ---- words

-- no list stands right after the word w
abbrev Apart : ℕ → List ℕ → Type 0
Apart w [] = Unit {0}
Apart w (x ∷ xs) = (x ≡ w → kind_of (get_or xs 0 0) ≡ 1 → ⊥) × Apart w xs

apart_left : (w : ℕ) (xs ys : List ℕ) → Apart w (xs ++ ys) → Apart w xs
apart_left w [] ys a = tt
apart_left w (x ∷ []) ys a = (λ e k. absurd (omega arith), tt)
apart_left w (x ∷ y ∷ xs) ys a = (a.0, apart_left w (y ∷ xs) ys a.1)

apart_right : (w : ℕ) (xs ys : List ℕ) → Apart w (xs ++ ys) → Apart w ys
apart_right w [] ys a = a
apart_right w (x ∷ xs) ys a = apart_right w xs ys a.1

-- so it is in the words that stand between two places
apart_there : {ws : List ℕ} {at end : ℕ} (w : ℕ) (xs : List ℕ) → Wrote ws at xs end → Quiet ws at end w → Apart w xs
apart_there w [] r q = tt
apart_there w (x ∷ []) r q = (λ e k. absurd (omega arith), tt)
apart_there {ws} {at} {end} w (x ∷ y ∷ xs) r q =
    let f = wrote_first r in
    let g = wrote_first f.rest in
    (λ e k. q at (omega arith) (omega (arith, r.span)) (f.is ∙ e) (ap kind_of g.is ∙ k), apart_there {at = at + 1} w (y ∷ xs) f.rest (λ i l h. q i (omega arith) h))

-- ---- expressions

none_or : {a b : Option ℕ} → a ≡ nothing → b ≡ nothing → or_else a b ≡ nothing
unfolding or_else
none_or e f = ap₂ or_else e f

other_name : (name x m : ℕ) (xs : List ℕ) → m < 16777216 → Apart (word_of 2 name) (word_of 2 x ∷ word_of 1 m ∷ xs) → eqb x name ≡ false
other_name name x m xs h a = ne_eqb x name (λ e. a.0 (ap (word_of 2) e) (kind_is 1 m h))

module _ (name : ℕ) (n : Strings) where
  here_none : (x m : ℕ) (xs : List ℕ) → m < 16777216 → Apart (word_of 2 name) (word_of 2 x ∷ word_of 1 m ∷ xs) → subscripted (eqb x name) m ≡ nothing
  unfolding subscripted
  here_none x m xs h a = ap (λ (t : Bool). subscripted t m) (other_name name x m xs h a)

  mutual
    unfolding in_expr in_exprs words words_all Valid Valids

    in_none : (e : Expr) → Valid n e → Apart (word_of 2 name) (words e) → in_expr name e ≡ nothing
    in_none (Lit l) v a = refl
    in_none (Var x) v a = refl
    in_none (Elem x es) v a = none_or (here_none x (many es) (words_all es) v.1 a.1) (ins_none es v.2 a.1.1.1)
    in_none (Unary o e) v a = in_none e v.1 a.1.1
    in_none (Binary o l r) v a = none_or (in_none l v.1 (apart_left (word_of 2 name) (words l) (words r) a.1.1)) (in_none r v.2 (apart_right (word_of 2 name) (words l) (words r) a.1.1))
    in_none (Call x es) v a = none_or (here_none x (many es) (words_all es) v.1 a.1) (ins_none es v.2 a.1.1.1)
    in_none (Field e x) v a = in_none e v.0 (apart_left (word_of 2 name) (words e) (word_of 2 x ∷ []) a.1)
    in_none (Paren e) v a = in_none e v a.1

    ins_none : (es : Exprs) → Valids n es → Apart (word_of 2 name) (words_all es) → in_exprs name es ≡ nothing
    ins_none none v a = refl
    ins_none (more e es) v a = none_or (in_none e v.0 (apart_left (word_of 2 name) (words e) (words_all es) a)) (ins_none es v.1 (apart_right (word_of 2 name) (words e) (words_all es) a))

-- ---- parts of a statement

module _ (name : ℕ) (ns : List ℕ) (n : ℕ) where
  record Clean {i : Shape} (v : Tree Expr i) : Type 0 where
    right : Right ns n v
    apart : Apart (word_of 2 name) (words_t v)

  left : {s : Sort} {ss : Sorts} (v : Tree Expr (one s)) (t : Tree Expr (row ss)) → Clean (cons v t) → Clean v
  unfolding words_t Right
  left v t c = record { right = c.right.0; apart = apart_left (word_of 2 name) (words_t v) (words_t t) c.apart }

  rest : {s : Sort} {ss : Sorts} (v : Tree Expr (one s)) (t : Tree Expr (row ss)) → Clean (cons v t) → Clean t
  unfolding words_t Right
  rest v t c = record { right = c.right.1; apart = apart_right (word_of 2 name) (words_t v) (words_t t) c.apart }

  first_row : {ss : Sorts} (r : Tree Expr (row ss)) (rs : Tree Expr (rows ss)) → Clean (add_row r rs) → Clean r
  unfolding words_t Right
  first_row r rs c = record { right = c.right.0; apart = apart_left (word_of 2 name) (words_t r) (words_t rs) c.apart }

  more_rows : {ss : Sorts} (r : Tree Expr (row ss)) (rs : Tree Expr (rows ss)) → Clean (add_row r rs) → Clean rs
  unfolding words_t Right
  more_rows r rs c = record { right = c.right.1; apart = apart_right (word_of 2 name) (words_t r) (words_t rs) c.apart }

  in_list : {ss : Sorts} (rs : Tree Expr (rows ss)) → Clean (list rs) → Clean rs
  unfolding words_t Right
  in_list rs c = record { right = c.right.1; apart = c.apart.1 }

  in_part : {ss : Sorts} (r : Tree Expr (row ss)) → Clean (part r) → Clean r
  unfolding words_t Right
  in_part r c = record { right = c.right; apart = c.apart }

  both : (xs ys : List Expr) → first_of (in_expr name) xs ≡ nothing → first_of (in_expr name) ys ≡ nothing → first_of (in_expr name) (xs ++ ys) ≡ nothing
  both xs ys e f = first_of_append (in_expr name) xs ys ∙ none_or e f

  own_none : {i : Shape} (v : Tree Expr i) → Clean v → first_of (in_expr name) (own v) ≡ nothing
  unfolding own first_of words_t Right
  own_none (word x) c = refl
  own_none (value e) c = none_or (in_none name (strings ns n) e c.right c.apart) refl
  own_none (Stmt k line t) c = refl
  own_none (list rs) c = own_none rs (in_list rs c)
  own_none (part t) c = own_none t (in_part t c)
  own_none (this t) c = own_none t (record { right = c.right; apart = c.apart.1 })
  own_none (that v) c = own_none v (record { right = c.right; apart = c.apart })
  own_none done c = refl
  own_none (cons v t) c = both (own v) (own t) (own_none v (left v t c)) (own_none t (rest v t c))
  own_none no_rows c = refl
  own_none (add_row t ts) c = both (own t) (own ts) (own_none t (first_row t ts c)) (own_none ts (more_rows t ts c))

  -- ---- targets

  indices_none : (x : ℕ) (is : Tree Expr (one (opt (exprs & nil)))) → Right ns n is → Apart (word_of 2 name) (word_of 2 x ∷ words_t is)
      → pick (eqb x name) (indexed (optional expressions is)) nothing ≡ nothing
  unfolding words_t Right optional indexed
  indices_none x (this t) r a = pick_none (eqb x name)
  indices_none x (that (part (cons (list rs) done))) r a =
      ap (λ (t : Bool). pick t (indexed (optional expressions (that (part (cons (list rs) done))))) nothing) (other_name name x (count rs) (words_t rs ++ []) r.0.0 a)

  target_none : (v : Tree Expr (row LValueRow)) → Clean v → in_lvalue name (lvalue v) ≡ nothing
  unfolding words_t Right lvalue in_lvalue
  target_none (cons (word x) (cons is (cons fs done))) c =
      indices_none x is c.right.1.0 (apart_left (word_of 2 name) (word_of 2 x ∷ words_t is) (words_t (cons fs done)) c.apart)

  targets_none : (rs : Tree Expr (rows LValueRow)) → Clean rs → first_of (in_lvalue name) (rows_of lvalue rs) ≡ nothing
  unfolding first_of rows_of
  targets_none no_rows c = refl
  targets_none (add_row r rs) c = none_or (target_none r (first_row r rs c)) (targets_none rs (more_rows r rs c))

  items_none : (v : Tree Expr (one (many_sort LValueRow))) → Clean v → first_of (in_lvalue name) (items lvalue v) ≡ nothing
  unfolding items
  items_none (list rs) c = targets_none rs (in_list rs c)

  one_none : (v : Tree Expr (row LValueRow)) → Clean v → first_of (in_lvalue name) (lvalue v ∷ []) ≡ nothing
  unfolding first_of
  one_none v c = none_or (target_none v c) refl

  two_none : (v w : Tree Expr (row LValueRow)) → Clean v → Clean w → first_of (in_lvalue name) (lvalue v ∷ lvalue w ∷ []) ≡ nothing
  unfolding first_of
  two_none v w c d = none_or (target_none v c) (one_none w d)

  -- ---- a statement of each kind

  no_targets : first_of (in_lvalue {E = Expr} name) [] ≡ nothing
  unfolding first_of
  no_targets = refl

  plain_none : {ss : Sorts} (r : Tree Expr (row ss)) → Clean r → in_stmt (λ x (e : Expr). in_expr x e) name (plain r) ≡ nothing
  unfolding in_stmt plain first_of
  plain_none r c = none_or refl (own_none r c)

  let_none : (x : ℕ) (is : Tree Expr (one (opt (exprs & nil)))) {ss : Sorts} (e : Tree Expr (row ss)) → Right ns n is → Apart (word_of 2 name) (word_of 2 x ∷ (words_t is ++ words_t e))
      → first_of (in_lvalue name) (record { name = x; indices = optional expressions is } ∷ []) ≡ nothing
  unfolding first_of in_lvalue
  let_none x is e r a = none_or (indices_none x is r (apart_left (word_of 2 name) (word_of 2 x ∷ words_t is) (words_t e) a)) refl

  -- a statement of the kind does not use the name
  abbrev NoUse : Kind → Type 0
  NoUse k = (r : Tree Expr (row (sorts k))) → Clean r → in_stmt (λ x (e : Expr). in_expr x e) name (uses k r) ≡ nothing

  assign_none : NoUse let'
  unfolding sorts uses in_stmt words_t Right
  assign_none (cons (word x) (cons is e)) c =
      let d = rest (word x) (cons is e) c in
      none_or (let_none x is e c.right.1.0 c.apart) (both (own is) (own e) (own_none is (left is e d)) (own_none e (rest is e d)))

  print_none : NoUse print
  unfolding sorts uses in_stmt words_t Right
  print_none (cons file (cons its (cons (word newline) (cons using' (cons (word write) done))))) c =
      let d = rest file (cons its (cons (word newline) (cons using' (cons (word write) done)))) c in
      let e = rest (word newline) (cons using' (cons (word write) done)) (rest its (cons (word newline) (cons using' (cons (word write) done))) d) in
      none_or no_targets (both (own file) (own using' ++ own its) (own_none file (left file (cons its (cons (word newline) (cons using' (cons (word write) done)))) c))
      (both (own using') (own its) (own_none using' (left using' (cons (word write) done) e)) (own_none its (left its (cons (word newline) (cons using' (cons (word write) done))) d))))

  input_none : NoUse input
  unfolding sorts uses in_stmt words_t Right
  input_none (cons prompt (cons (word query) (cons vars (cons file done)))) c =
      let d = rest (word query) (cons vars (cons file done)) (rest prompt (cons (word query) (cons vars (cons file done))) c) in
      let v = left vars (cons file done) d in
      none_or (items_none vars v) (both (own file) (own vars) (own_none file (left file done (rest vars (cons file done) d))) (own_none vars v))

  line_input_none : NoUse line_input
  unfolding sorts uses in_stmt words_t Right
  line_input_none (cons prompt (cons (part var) (cons file done))) c =
      let d = rest prompt (cons (part var) (cons file done)) c in
      let v = in_part var (left (part var) (cons file done) d) in
      none_or (one_none var v) (both (own file) (own var) (own_none file (left file done (rest (part var) (cons file done) d))) (own_none var v))

  swap_none : NoUse swap
  unfolding sorts uses in_stmt words_t Right
  swap_none (cons (part a) (cons (part b) done)) c =
      let x = in_part a (left (part a) (cons (part b) done) c) in
      let y = in_part b (left (part b) done (rest (part a) (cons (part b) done) c)) in
      none_or (two_none a b x y) (both (own a) (own b) (own_none a x) (own_none b y))

  read_none : NoUse read
  unfolding sorts uses in_stmt words_t Right
  read_none (cons vars done) c =
      let v = left vars done c in
      none_or (items_none vars v) (own_none vars v)

  stmt_none : (k : Kind) → NoUse k
  unfolding Each target_kinds
  stmt_none k = by_kind NoUse target_kinds (assign_none, (print_none, (input_none, (line_input_none, (swap_none, (read_none, tt)))))) k (λ o r c. ap (in_stmt (λ x (e : Expr). in_expr x e) name) (uses_plain k o r) ∙ plain_none r c)

  tree_none : {i : Shape} (v : Tree Expr i) → Clean v → subscript_count (λ x (e : Expr). in_expr x e) name v ≡ nothing
  unfolding subscript_count words_t Right
  tree_none (word x) c = refl
  tree_none (value e) c = refl
  tree_none (Stmt k line r) c =
      let d : Clean r = record { right = c.right.1; apart = c.apart.1 } in
      none_or (stmt_none k r d) (tree_none r d)
  tree_none (list rs) c = tree_none rs (in_list rs c)
  tree_none (part r) c = tree_none r (in_part r c)
  tree_none (this r) c = tree_none r (record { right = c.right; apart = c.apart.1 })
  tree_none (that v) c = tree_none v (record { right = c.right; apart = c.apart })
  tree_none done c = refl
  tree_none (cons v r) c = none_or (tree_none v (left v r c)) (tree_none r (rest v r c))
  tree_none no_rows c = refl
  tree_none (add_row r rs) c = none_or (tree_none r (first_row r rs c)) (tree_none rs (more_rows r rs c))

-- ---- the body

-- in such a body there is no use of the name
pub quiet_none : {ws ns : List ℕ} {n at end : ℕ} (name : ℕ) (v : Tree Expr (one body_sort)) → Stands ws ns n at v end → Quiet ws at end (word_of 2 name)
    → subscript_count (λ x (e : Expr). in_expr x e) name v ≡ nothing
quiet_none {ns = ns} {n} name v s q = tree_none name ns n v (record { right = s.valid; apart = apart_there (word_of 2 name) (words_t v) s.wrote q })
