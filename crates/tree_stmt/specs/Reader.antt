-- The definition of reading: by the sorts, and by the depth that is left.
use Rattle.std.specs.Prelude.{ℕ, zero, suc, ◌+◌, ◌-◌, List, Bool, false, length, get_or, ltb, leb, eqb}
use Rattle.tree_expr.specs.Expr.{Expr}
use Rattle.base_words.specs.Word.{word_of, pick, kind_of, pay_of}
use Rattle.tree_expr.specs.Got.{Got, got, wrong, deep, bind}
use Rattle.tree_expr.specs.Reader.{leaf_at, expr_at}
use Rattle.tree_stmt.specs.Sorts.{Sort, leaf, expr, stmt, many, group, either, never, Sorts, nil, ◌&◌, sorts, kind_at}
use Rattle.tree_stmt.specs.Tree.{strings, one, row, rows, Tree, word, value, Stmt, list, part, this, that, done, cons, none, more, kind_l, ok_l}

module _ (ws : List ℕ) where
  -- a word of kind k whose payload is right: its payload (`word_at` of list_image/specs/Image.antt is four bytes)
  unfoldable pub word_at : ℕ → (ℕ → Bool) → ℕ → Got ℕ
  word_at k ok at =
      pick (ltb at (length ws))
      (pick (eqb (kind_of (get_or ws at 0)) k) (pick (ok (pay_of (get_or ws at 0))) (got (pay_of (get_or ws at 0)) (at + 1)) (wrong at)) (wrong at))
      (wrong (length ws))

  -- no word is right
  unfoldable pub never_at : {A : Type 0} → ℕ → Got A
  never_at at = pick (ltb at (length ws)) (wrong at) (wrong (length ws))

  -- the word stands there
  unfoldable pub is_at : ℕ → ℕ → Bool
  is_at w at = pick (ltb at (length ws)) (eqb (get_or ws at 0) w) false

  -- a statement's head, of the kinds 64 to 117, with any line: the word
  unfoldable pub stmt_head : ℕ → Got ℕ
  stmt_head at =
      pick (ltb at (length ws))
      (pick (leb 64 (kind_of (get_or ws at 0))) (pick (ltb (kind_of (get_or ws at 0)) 118) (got (get_or ws at 0) (at + 1)) (wrong at)) (wrong at))
      (wrong (length ws))

  module _ (ns : List ℕ) (n : ℕ) where
    -- so many rows
    unfoldable pub rows_at : {ss : Sorts} → (ℕ → Got (Tree Expr (row ss))) → ℕ → ℕ → Got (Tree Expr (rows ss))
    rows_at f zero at = got none at
    rows_at f (suc c) at = bind (f at) (λ r m. bind (rows_at f c m) (λ rs m'. got (more r rs) m'))

    module _ (sub : ℕ → Got Expr) (sub_s : ℕ → Got (Tree Expr (one stmt))) where
      -- a field of the sort s, a row of fields: `sub` reads an expression inside, `sub_s` a statement
      unfoldable mutual
        -- a field: one word, or as its sort says
        pub field_at : (s : Sort) → ℕ → Got (Tree Expr (one s))
        field_at (leaf l) at = bind (word_at (kind_l l) (ok_l ns n l) at) (λ x m. got (word x) m)
        field_at expr at = bind (sub at) (λ e m. got (value e) m)
        field_at stmt at = sub_s at
        field_at (many ss) at = bind (leaf_at ws 1 16777216 at) (λ c m. bind (rows_at (λ x. row_at ss x) c m) (λ rs m'. got (list rs) m'))
        field_at (group ss) at = bind (row_at ss at) (λ r m. got (part r) m)
        field_at (either k ss s) at = pick (is_at (word_of k 0) at) (bind (row_at ss (at + 1)) (λ r m. got (this r) m)) (bind (field_at s at) (λ v m. got (that v) m))
        field_at never at = never_at at

        -- the fields of a row, one after the other
        pub row_at : (ss : Sorts) → ℕ → Got (Tree Expr (row ss))
        row_at nil at = got done at
        row_at (s & ss) at = bind (field_at s at) (λ v m. bind (row_at ss m) (λ r m'. got (cons v r) m'))

      -- what follows a statement's head, the word w
      unfoldable pub rest_at : ℕ → ℕ → Got (Tree Expr (one stmt))
      rest_at w m = bind (row_at (sorts (kind_at (kind_of w - 64))) m) (λ r m'. got (Stmt (kind_at (kind_of w - 64)) (pay_of w) r) m')

    -- a statement, with so many levels left: a right head where none is left is too deep
    unfoldable pub stmt_at : ℕ → ℕ → Got (Tree Expr (one stmt))
    stmt_at zero at = bind (stmt_head at) (λ w m. deep at)
    stmt_at (suc d) at = bind (stmt_head at) (rest_at (expr_at ws (strings ns n) d) (stmt_at d))

    -- a whole program: one list of statements; 100 is `max_depth` (base_words/specs/Sizes.antt)
    unfoldable pub program_at : Got (Tree Expr (one (many (stmt & nil))))
    program_at = field_at (expr_at ws (strings ns n) 100) (stmt_at 100) (many (stmt & nil)) 0
