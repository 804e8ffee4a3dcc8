-- What the contracts of the code of `subscript_count` cite. These are definitions.
use Rattle.std.specs.Prelude.{ℕ, ◌+◌, ◌<◌, ◌≤◌, ◌≡◌, Bool, true, ◌||◌, ◌&&◌, List, [], ◌∷◌, eqb, leb, get_or, Option as RustOption, Some, None}
use Rattle.std.proofs.Math.Option.{Option, none as nothing, some}
use Rattle.base_words.specs.Word.{kind_of, pay_of}
use Rattle.tree_expr.specs.Expr.{Strings, Expr, Exprs, Lit, Var, Elem, Unary, Binary, Call, Field, Paren, many}
use Rattle.tree_expr.specs.Stands as W
use Rattle.tree_stmt.specs.Sorts.{stmt, exprs, nil, ◌&◌, opt, many as many_sort, body, LValue as LValueRow}
use Rattle.tree_stmt.specs.Tree.{Shape, one, row, Tree, Stmt}
use Rattle.tree_stmt.specs.Stands.{Stands, SomeTree}
use Rattle.tree_walk.specs.Pieces.{Piece, expr_piece, stmt_piece}
use Rattle.tree_views.specs.View.{lvalue, optional, expressions, items}
use Rattle.tree_views.specs.Uses.{own}
use Rattle.collect_subscript_count.specs.Subscripts.{or_else, first_of, subscripted, in_expr, in_exprs, in_lvalue, subscript_count}
use Rattle.collect_subscript_count.specs.Notes.{Mark, noted, used, room, mark_at, Noted}

-- the code's answer as the definition's: the count, where a use was found
unfoldable pub use_of : RustOption ℕ → Option ℕ
use_of None = nothing
use_of (Some n) = some n

-- the marks of all names, before a part is walked and after it
abbrev pub Marks : Type 0
Marks = ℕ → Mark

-- ---- expressions

-- the use that an expression is, without what stands in it
unfoldable pub here_of : ℕ → Expr → Option ℕ
here_of name (Lit l) = nothing
here_of name (Var n) = nothing
here_of name (Elem n es) = subscripted (eqb n name) (many es)
here_of name (Unary o e) = nothing
here_of name (Binary o l r) = nothing
here_of name (Call n es) = subscripted (eqb n name) (many es)
here_of name (Field e f) = nothing
here_of name (Paren e) = nothing

-- the expression there is noted at k, without what stands in it
pub record HereNotes (ws : List ℕ) (at k : ℕ) (before after : Marks) : Type 0 where
  pub gives : (n : Strings) (e : Expr) (end : ℕ) → W.Stands ws n at e end → (x : ℕ) → after x ≡ noted k (here_of x e) (before x)

-- the first uses in whatever expression stands there are noted at k, and it ends there
pub record NotesExpr (ws : List ℕ) (at k : ℕ) (before after : Marks) (next : ℕ) : Type 0 where
  pub gives : (n : Strings) (e : Expr) (end : ℕ) → W.Stands ws n at e end → ((x : ℕ) → after x ≡ noted k (in_expr x e) (before x)) × (next ≡ end)

-- some c expressions stand there
pub record SomeExprs (ws : List ℕ) (at c : ℕ) : Type 0 where
  pub strings : Strings
  pub exprs : Exprs
  pub end : ℕ
  pub stands : W.StandsAll ws strings at exprs end
  pub counted : many exprs ≡ c

-- in whatever c expressions stand there
pub record NotesExprs (ws : List ℕ) (at c k : ℕ) (before after : Marks) (next : ℕ) : Type 0 where
  pub gives : (n : Strings) (es : Exprs) (end : ℕ) → W.StandsAll ws n at es end → many es ≡ c → ((x : ℕ) → after x ≡ noted k (in_exprs x es) (before x)) × (next ≡ end)

-- ---- parts of a statement without statements in them

-- in the own expressions of whatever part stands there
pub record NotesOwn (i : Shape) (ws : List ℕ) (at k : ℕ) (before after : Marks) (next : ℕ) : Type 0 where
  pub gives : (ns : List ℕ) (n : ℕ) (v : Tree Expr i) (end : ℕ) → Stands ws ns n at v end → ((x : ℕ) → after x ≡ noted k (first_of (in_expr x) (own v)) (before x)) × (next ≡ end)

-- a name, and then an optional list of indices
pub record IndexedAt (ws : List ℕ) (at : ℕ) : Type 0 where
  pub some : SomeTree (one (opt (exprs & nil))) ws (at + 1)

-- the name itself is noted at k, and then the first uses in the indices at j
pub record NotesIndexed (ws : List ℕ) (at k j : ℕ) (before after : Marks) (next : ℕ) : Type 0 where
  pub gives : (ns : List ℕ) (n : ℕ) (is : Tree Expr (one (opt (exprs & nil)))) (end : ℕ) → Stands ws ns n (at + 1) is end
      → ((x : ℕ) → after x ≡ noted j (first_of (in_expr x) (own is)) (noted k (in_lvalue x (record { name = pay_of (get_or ws at 0); indices = optional expressions is })) (before x))) × (next ≡ end)

-- the target itself, and then its indices
pub record NotesTarget (ws : List ℕ) (at k j : ℕ) (before after : Marks) (next : ℕ) : Type 0 where
  pub gives : (ns : List ℕ) (n : ℕ) (v : Tree Expr (row LValueRow)) (end : ℕ) → Stands ws ns n at v end
      → ((x : ℕ) → after x ≡ noted j (first_of (in_expr x) (own v)) (noted k (in_lvalue x (lvalue v)) (before x))) × (next ≡ end)

-- the targets themselves, and the indices of all
pub record NotesTargets (ws : List ℕ) (at k j : ℕ) (before after : Marks) (next : ℕ) : Type 0 where
  pub gives : (ns : List ℕ) (n : ℕ) (v : Tree Expr (one (many_sort LValueRow))) (end : ℕ) → Stands ws ns n at v end
      → ((x : ℕ) → after x ≡ noted j (first_of (in_expr x) (own v)) (noted k (first_of (in_lvalue x) (items lvalue v)) (before x))) × (next ≡ end)

-- ---- statements

-- a statement of the j-th kind stands there
pub record KindAt (j : ℕ) (ws : List ℕ) (at : ℕ) : Type 0 where
  pub some : SomeTree (one stmt) ws at
  pub kind : kind_of (get_or ws at 0) ≡ 64 + j

-- the first uses in whatever statement stands there, with its bodies, are noted at places in it
pub record NotesStmt (ws : List ℕ) (at : ℕ) (before after : Marks) (next : ℕ) : Type 0 where
  pub gives : (ns : List ℕ) (n : ℕ) (v : Tree Expr (one stmt)) (end : ℕ) → Stands ws ns n at v end → ((x : ℕ) → Noted at end (subscript_count (λ name (e : Expr). in_expr name e) x v) (before x) (after x)) × (next ≡ end)

-- the kinds with targets, or with expressions in another order than their words: LET, PRINT, INPUT, LINE INPUT, SWAP, READ
unfoldable pub targeted : ℕ → Bool
targeted k = (leb 66 k && leb k 69) || eqb k 88 || eqb k 96

-- ---- a walk over parts of statements

-- the first use in the expressions
unfoldable pub own_use : ℕ → List (Piece Expr) → Option ℕ
own_use name [] = nothing
own_use name (expr_piece e ∷ ps) = or_else (in_expr name e) (own_use name ps)
own_use name (stmt_piece k line r ∷ ps) = own_use name ps

-- the first use in the statements
unfoldable pub nested_use : ℕ → List (Piece Expr) → Option ℕ
nested_use name [] = nothing
nested_use name (expr_piece e ∷ ps) = nested_use name ps
nested_use name (stmt_piece k line r ∷ ps) = or_else (subscript_count (λ name (e : Expr). in_expr name e) name (Stmt k line r)) (nested_use name ps)

-- the first own uses in some pieces, which stand from lo to hi, are noted at k, the first nested ones at places from lo on
pub record Counted (k lo hi : ℕ) (before after : Marks) (ns : List ℕ) (n : ℕ) (ps : List (Piece Expr)) : Type 0 where
  pub span : lo ≤ hi
  pub marks : k < lo → (x : ℕ) → Noted lo hi (nested_use x ps) (noted k (own_use x ps) (before x)) (after x)

-- ---- a body

-- the notes have the first uses in whatever body stands there, of all names for which they have room
pub record Told (ws : List ℕ) (at base : ℕ) (t : List ℕ) : Type 0 where
  pub gives : (ns : List ℕ) (n : ℕ) (v : Tree Expr (one body)) (end : ℕ) → Stands ws ns n at v end → (x : ℕ) → room base t x ≡ true → used (mark_at base t x) ≡ subscript_count (λ name (e : Expr). in_expr name e) x v
