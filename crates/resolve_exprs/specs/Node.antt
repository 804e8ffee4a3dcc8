-- An expression as a node: the words before its children and those after them; and a whole argument as the pair that it keeps and what is
-- resolved after it. These are definitions.
use Rattle.std.specs.Prelude.{ℕ, Bool, List, [], ◌∷◌}
use Rattle.base_words.specs.Word.{word_of, pick}
use Rattle.tree_expr.specs.Expr.{Expr, Lit, Var, Elem, Unary, Binary, Call, Field, Paren, many, words_l}

-- before its children
unfoldable pub front : Expr → List ℕ
unfolding words_l many
front (Lit l) = word_of 16 0 ∷ words_l l
front (Var x) = word_of 17 0 ∷ word_of 2 x ∷ []
front (Elem x es) = word_of 18 0 ∷ word_of 2 x ∷ word_of 1 (many es) ∷ []
front (Unary o e) = word_of 19 0 ∷ word_of 9 o ∷ []
front (Binary o l r) = word_of 20 0 ∷ word_of 9 o ∷ []
front (Call x es) = word_of 21 0 ∷ word_of 2 x ∷ word_of 1 (many es) ∷ []
front (Field e x) = word_of 22 0 ∷ []
front (Paren e) = word_of 23 0 ∷ []

-- after them: a field's name
unfoldable pub back : Expr → List ℕ
back (Lit l) = []
back (Var x) = []
back (Elem x es) = []
back (Unary o e) = []
back (Binary o l r) = []
back (Call x es) = []
back (Field e x) = word_of 2 x ∷ []
back (Paren e) = []

-- the pair that an argument keeps, by reference or not
unfoldable pub pair_of : Bool → Expr → List ℕ
pair_of by_ref (Lit l) = []
pair_of by_ref (Var x) = []
pair_of by_ref (Elem x es) = []
pair_of by_ref (Unary o e) = []
pair_of by_ref (Binary o l r) = []
pair_of by_ref (Call x es) = []
pair_of by_ref (Field e x) = []
pair_of by_ref (Paren e) = pick by_ref (word_of 23 0 ∷ []) []

-- and what stands in it
unfoldable pub bare : Bool → Expr → Expr
bare by_ref (Lit l) = Lit l
bare by_ref (Var x) = Var x
bare by_ref (Elem x es) = Elem x es
bare by_ref (Unary o e) = Unary o e
bare by_ref (Binary o l r) = Binary o l r
bare by_ref (Call x es) = Call x es
bare by_ref (Field e x) = Field e x
bare by_ref (Paren e) = pick by_ref e (Paren e)
