-- A list of expressions in a row of a statement, as the list that it is. Assumes nothing.
use Prim.Native.Nat.{ℕ, ◌+◌}
use mathlib.Core.Path.{◌≡◌, refl, ap, ap₂}
use mathlib.Core.List.{List, ◌++◌, append-nil}
use Rattle.tree_expr.specs.Expr.{Expr, Exprs, none, more, many, words, words_all, Valids}
use Rattle.tree_expr.specs.Stands.{StandsAll}
use Rattle.tree_stmt.specs.Sorts.{expr, nil, ◌&◌}
use Rattle.tree_stmt.specs.Tree.{strings, rows, Tree, value, done, cons, none as nothing, more as add, count, words_t, Right}
use Rattle.tree_stmt.specs.Stands.{Stands}

-- the expressions of the rows
unfoldable pub members : Tree Expr (rows (expr & nil)) → Exprs
members nothing = none
members (add (cons (value e) done) rs) = more e (members rs)

-- they are as many
pub many_members : (rs : Tree Expr (rows (expr & nil))) → many (members rs) ≡ count rs
unfolding members many count
many_members nothing = refl
many_members (add (cons (value e) done) rs) = ap (λ (k : ℕ). k + 1) (many_members rs)

-- their words are the rows'
pub words_members : (rs : Tree Expr (rows (expr & nil))) → words_t rs ≡ words_all (members rs)
unfolding members words_t words_all
words_members nothing = refl
words_members (add (cons (value e) done) rs) = ap₂ ◌++◌ (append-nil (words e)) (words_members rs)

-- right rows have valid expressions
pub valid_members : (ns : List ℕ) (n : ℕ) (rs : Tree Expr (rows (expr & nil))) → Right ns n rs → Valids (strings ns n) (members rs)
unfolding members Right Valids
valid_members ns n nothing v = tt
valid_members ns n (add (cons (value e) done) rs) v = (v.0.0, valid_members ns n rs v.1)

-- they stand where the rows stand
pub members_there : {ws ns : List ℕ} {n at end : ℕ} {rs : Tree Expr (rows (expr & nil))} → Stands ws ns n at rs end → StandsAll ws (strings ns n) at (members rs) end
members_there {ns = ns} {n} {rs = rs} s = let w = s.wrote in record { wrote = rw (words_members rs) at w; valid = valid_members ns n rs s.valid }
