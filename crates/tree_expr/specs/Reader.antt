-- The definition of reading: by the depth that is left, so that it recurses on its first argument.
use Rattle.std.specs.Prelude.{ℕ, zero, suc, ◌+◌, List, Bool, length, get_or, ltb, leb, eqb}
use Rattle.tree_expr.specs.Expr.{Strings, finite, Literal, Integer, Long, Single, Float, Text, Expr, Exprs, Lit, Var, Elem, Unary, Binary, Call, Field, Paren, none, more}
use Rattle.base_words.specs.Word.{kind_of, pay_of, pick}
use Rattle.tree_expr.specs.Got.{Got, got, wrong, deep, bind}

module _ (ws : List ℕ) where
  -- the word at a place, whatever it is
  unfoldable pub raw_at : ℕ → Got ℕ
  raw_at at = pick (ltb at (length ws)) (got (get_or ws at 0) (at + 1)) (wrong (length ws))

  -- a word that a test lets through
  unfoldable pub test_at : (ℕ → Bool) → ℕ → Got ℕ
  test_at ok at = pick (ltb at (length ws)) (pick (ok (get_or ws at 0)) (got (get_or ws at 0) (at + 1)) (wrong at)) (wrong (length ws))

  -- a word of kind k with a payload below n: its payload
  unfoldable pub leaf_at : ℕ → ℕ → ℕ → Got ℕ
  leaf_at k n at =
      pick (ltb at (length ws))
      (pick (eqb (kind_of (get_or ws at 0)) k) (pick (ltb (pay_of (get_or ws at 0)) n) (got (pay_of (get_or ws at 0)) (at + 1)) (wrong at)) (wrong at))
      (wrong (length ws))

  -- the number of a name
  unfoldable pub name_at : List ℕ → ℕ → Got ℕ
  name_at ns at =
      pick (ltb at (length ws))
      (pick (eqb (kind_of (get_or ws at 0)) 2) (pick (eqb (get_or ns (pay_of (get_or ws at 0)) 0) 1) (got (pay_of (get_or ws at 0)) (at + 1)) (wrong at)) (wrong at))
      (wrong (length ws))

  -- a head: a kind from a to b with payload 0: its kind
  unfoldable pub head_at : ℕ → ℕ → ℕ → Got ℕ
  head_at a b at =
      pick (ltb at (length ws))
      (pick (leb a (kind_of (get_or ws at 0)))
      (pick (leb (kind_of (get_or ws at 0)) b) (pick (eqb (pay_of (get_or ws at 0)) 0) (got (kind_of (get_or ws at 0)) (at + 1)) (wrong at)) (wrong at))
      (wrong at))
      (wrong (length ws))

  -- two words, the high one of a finite float
  unfoldable pub float_at : (ℕ → ℕ → Literal) → ℕ → Got Literal
  float_at f at = bind (raw_at at) (λ a m. bind (test_at finite m) (λ b m'. got (f a b) m'))

  module _ (n : ℕ) where
    -- what follows a literal's head of the kind k, 24 to 28
    unfoldable pub literal_body : ℕ → ℕ → Got Literal
    literal_body k m =
        pick (eqb k 24) (bind (raw_at m) (λ a m'. got (Integer a) m'))
        (pick (eqb k 25) (bind (raw_at m) (λ a m'. got (Long a) m'))
        (pick (eqb k 26) (float_at Single m)
        (pick (eqb k 27) (float_at Float m)
        (bind (leaf_at 2 n m) (λ s m'. got (Text s) m')))))  -- 28

    -- a literal, with its own head
    unfoldable pub literal_at : ℕ → Got Literal
    literal_at at = bind (head_at 24 28 at) literal_body

  module _ (n : Strings) where
    module _ (sub : ℕ → Got Expr) where
      -- so many expressions, one after another
      unfoldable pub exprs_at : ℕ → ℕ → Got Exprs
      exprs_at zero at = got none at
      exprs_at (suc c) at = bind (sub at) (λ e m. bind (exprs_at c m) (λ es m'. got (more e es) m'))

      -- a list: its head has the count
      unfoldable pub list_at : ℕ → Got Exprs
      list_at at = bind (leaf_at 1 16777216 at) exprs_at

      -- what follows a head of the kind k, 16 to 23; UnaryOp has 2 variants, BinaryOp 18
      unfoldable pub body_at : ℕ → ℕ → Got Expr
      body_at k at =
          pick (eqb k 16) (bind (literal_at n.count at) (λ l m. got (Lit l) m))
          (pick (eqb k 17) (bind (name_at n.names at) (λ x m. got (Var x) m))
          (pick (eqb k 18) (bind (name_at n.names at) (λ x m. bind (list_at m) (λ es m'. got (Elem x es) m')))
          (pick (eqb k 19) (bind (leaf_at 9 2 at) (λ o m. bind (sub m) (λ e m'. got (Unary o e) m')))
          (pick (eqb k 20) (bind (leaf_at 9 18 at) (λ o m. bind (sub m) (λ l m'. bind (sub m') (λ r m''. got (Binary o l r) m''))))
          (pick (eqb k 21) (bind (name_at n.names at) (λ x m. bind (list_at m) (λ es m'. got (Call x es) m')))
          (pick (eqb k 22) (bind (sub at) (λ e m. bind (name_at n.names m) (λ x m'. got (Field e x) m')))
          (bind (sub at) (λ e m. got (Paren e) m))))))))  -- 23

    -- an expression, with so many levels left: a right head where none is left is too deep
    unfoldable pub expr_at : ℕ → ℕ → Got Expr
    expr_at zero at = bind (head_at 16 23 at) (λ k m. deep at)
    expr_at (suc d) at = bind (head_at 16 23 at) (body_at (expr_at d))
