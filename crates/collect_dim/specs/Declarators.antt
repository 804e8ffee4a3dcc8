-- What the code of DIM and REDIM reads of a declarator, and what each of its parts does. Definitions only.
use Rattle.std.specs.Prelude.{ℕ, ◌+◌, ◌<◌, ◌≡◌, Bool, true, false, not, ◌&&◌, List, [], ◌∷◌, eqb, length, get_or, Option as RustOption, None, Some}
use Rattle.std.proofs.Math.Option.{Option, none, some}
use Rattle.base_words.specs.Word.{pick, pay_of}
use Rattle.base_strings.specs.Table.{string_at}
use Rattle.tree_expr.specs.Expr.{Expr}
use Rattle.tree_stmt.specs.Sorts.{Kind, expr, exprs, many, opt, nil, ◌&◌, Declarator as DeclaratorRow}
use Rattle.tree_stmt.specs.Tree.{Tree, one, row, over}
use Rattle.tree_stmt.specs.Stands.{Stands, SomeTree}
use Rattle.rows_table.specs.Rows.{Row}
use Rattle.rows_kinds.specs.Kinds.{dim_shared_row}
use Rattle.tree_views.specs.View.{TypeRef, head, Declarator, optional, items, expressions, lower, declarator}
use Rattle.collect_buffers.specs.State.{each, when, enter}
use Rattle.collect_buffers.specs.declared.Counts.{Counts}
use Rattle.collect_buffers.specs.Held.{Fit, Sized, Does, Rows, noting, pushing}
use Rattle.collect_definition.specs.Seen.{Seen, see}
use Rattle.base_builtins.specs.Builtins.{is_some}
use Rattle.collect_definition.specs.Collect.{given, last_of, disagrees, is_record, any_some, member, declared_as, declared_array, declared, dim_shared}
use Rattle.collect_definition.specs.Code.{SomeStmt, Named}
use Rattle.collect_as_clause.specs.Parts.{written_if, arg_word}
use Rattle.collect_dim.specs.declared.decl.Decl.{Decl}
use Rattle.collect_dim.specs.declared.Old.{Old}
use Rattle.collect_dim.specs.declared.Clash.{Clash}

-- ---- a declarator

-- how many dimensions, where there is a list of them
abbrev pub rank_of : Option (List Seen) → RustOption ℕ
rank_of none = None
rank_of (some dims) = Some (length dims)

-- what the code reads of the dimensions is so of whatever option stands there
pub record DimsIs (ws : List ℕ) (at : ℕ) (rank : RustOption ℕ) (next : ℕ) : Type 0 where
  pub is : (ns : List ℕ) (n : ℕ) (v : Tree Expr (one (opt (exprs & nil)))) (end : ℕ) → Stands ws ns n at v end → (rank_of (optional expressions (over see v)) ≡ rank) × (next ≡ end)

-- the same of a lower bound
pub record LowerIs (ws : List ℕ) (at : ℕ) (there : Bool) (next : ℕ) : Type 0 where
  pub is : (ns : List ℕ) (n : ℕ) (v : Tree Expr (row (opt (expr & nil) & nil))) (end : ℕ) → Stands ws ns n at v end → (is_some (lower (over see v)) ≡ there) × (next ≡ end)

-- and of the list of them: whether one is there
pub record LowersIs (ws : List ℕ) (at : ℕ) (there : Bool) (next : ℕ) : Type 0 where
  pub is : (ns : List ℕ) (n : ℕ) (v : Tree Expr (one (many (opt (expr & nil) & nil)))) (end : ℕ) → Stands ws ns n at v end → (any_some (items lower (over see v)) ≡ there) × (next ≡ end)

-- the code's declarator is this one
pub record Is (v : Decl) (x : Declarator Seen) : Type 0 where
  pub name : x.name ≡ v.name
  pub rank : rank_of x.dimensions ≡ v.rank
  pub lower : any_some x.lowers ≡ v.lower
  pub ty : written_if x.ty ≡ v.ty

-- its name and its type's argument are payloads
abbrev pub Small : Decl → Type 0
Small v = (v.name < 16777216) × (arg_word v.ty < 16777216)

-- what the code reads of a declarator is so of whatever stands there, its name is a name's, and its numbers are payloads
pub record DeclIs (ws : List ℕ) (at : ℕ) (r : Decl) : Type 0 where
  pub is : (ns : List ℕ) (n : ℕ) (v : Tree Expr (row DeclaratorRow)) (end : ℕ) → Stands ws ns n at v end
      → Is r (declarator (over see v)) × (r.next ≡ end) × (eqb (get_or ns r.name 0) 1 ≡ true)
  pub small : Small r

-- the place past the list, of whatever list stands there
abbrev pub Past : (ws : List ℕ) (at p : ℕ) → Type 0
Past ws at p = (ns : List ℕ) (n : ℕ) (v : Tree Expr (one (many DeclaratorRow))) (end : ℕ) → Stands ws ns n at v end → p ≡ end

-- a list stands there, and a word after it
pub record Flagged (ws : List ℕ) (at : ℕ) : Type 0 where
  pub list : SomeTree (one (many DeclaratorRow)) ws at
  pub inside : (p : ℕ) → Past ws at p → p < length ws

-- whether that word is a flag that says yes
pub record FlagIs (ws : List ℕ) (at : ℕ) (flag : Bool) : Type 0 where
  pub place : ℕ
  pub past : Past ws at place
  pub is : flag ≡ eqb (pay_of (get_or ws place 0)) 1

-- a list of declarators stands there, with names of these strings
pub record Ready (bytes ends ws : List ℕ) (at : ℕ) : Type 0 where
  pub marks : List ℕ
  pub strings : ℕ
  pub named : Named bytes ends marks
  pub tree : Tree Expr (one (many DeclaratorRow))
  pub end : ℕ
  pub stands : Stands ws marks strings at tree end

-- a statement of the kind does
pub record ReadyStmt (k : Kind) (bytes ends ws : List ℕ) (at : ℕ) : Type 0 where
  pub any : SomeStmt k ws at
  pub named : Named bytes ends any.names

-- ---- what is asked

-- whether a type that is no record is another one than the name's suffix, if it has one, says
abbrev pub Contradicts : (bytes ends : List ℕ) (name head : ℕ) → Bool → Type 0
Contradicts bytes ends name h r = (ty : TypeRef) → h ≡ head ty → r ≡ (not (is_record ty) && disagrees (last_of (string_at bytes ends name)) ty)

-- the array that was there, if any
abbrev pub old_of : Option Row → RustOption Old
old_of none = None
old_of (some r) = Some (record { rank = get_or r 2 0; lower = get_or r 4 0 })

-- whether it had a lower bound that was written
abbrev pub old_lower : RustOption Old → Bool
old_lower None = false
old_lower (Some old) = eqb old.lower 1

-- what is said where it is declared again
unfoldable pub clash_of : (erased : List ℕ) (is_redim preserve : Bool) (name rank : ℕ) → RustOption Old → RustOption Clash
clash_of erased is_redim preserve name rank None = None
clash_of erased is_redim preserve name rank (Some old) =
    pick (not is_redim && not (member name erased)) (Some (record { code = 19; number = 0 })) (
    pick (eqb old.rank rank) None (
    Some (record { code = pick preserve 20 21; number = old.rank })))

-- its diagnostic, if any
abbrev pub clashes : (line name : ℕ) → RustOption Clash → Sized
clashes line name None = noting false []
clashes line name (Some c) = pushing (c.code ∷ line ∷ (name + 1) ∷ 0 ∷ c.number ∷ 0 ∷ [])

-- ---- what is done, whatever declarator the code's is

-- the definition's step for a declarator, in buffers of so many words
abbrev pub declares : (bytes ends erased : List ℕ) (scope line : ℕ) (is_redim preserve : Bool) → Declarator Seen → Sized
declares bytes ends erased scope line is_redim preserve x N D = declared (given (some N) (some D) bytes ends erased) scope line is_redim preserve x

-- its type declared
pub record DeclaresType (bytes ends : List ℕ) (scope line : ℕ) (is_redim : Bool) (v : Decl) (s r : Counts) (b d b' d' : List ℕ) : Type 0 where
  pub fit : Fit r (length b') (length d')
  pub does : (erased : List ℕ) (x : Declarator Seen) → Is v x
      → Does (λ N D. declared_as (given (some N) (some D) bytes ends erased) scope line is_redim x.name x.ty) s r b d b' d'

-- its dimensions declared
pub record DeclaresArray (erased : List ℕ) (scope line : ℕ) (is_redim preserve : Bool) (v : Decl) (s r : Counts) (b d b' d' : List ℕ) : Type 0 where
  pub fit : Fit r (length b') (length d')
  pub does : (bytes ends : List ℕ) (x : Declarator Seen) → Is v x
      → Does (λ N D. declared_array (given (some N) (some D) bytes ends erased) scope line is_redim preserve x.name x.lowers x.dimensions) s r b d b' d'

-- both
pub record Declares (bytes ends erased : List ℕ) (scope line : ℕ) (is_redim preserve : Bool) (v : Decl) (s r : Counts) (b d b' d' : List ℕ) : Type 0 where
  pub fit : Fit r (length b') (length d')
  pub does : (x : Declarator Seen) → Is v x → Does (declares bytes ends erased scope line is_redim preserve x) s r b d b' d'

-- ---- and for a list of them

-- all of the list that stands there declared
pub record DeclaresAll (ws bytes ends erased : List ℕ) (scope line : ℕ) (is_redim preserve : Bool) (at : ℕ) (s r : Counts) (b d b' d' : List ℕ) : Type 0 where
  pub does : (ns : List ℕ) (n : ℕ) (v : Tree Expr (one (many DeclaratorRow))) (end : ℕ) → Stands ws ns n at v end
      → Does (λ N D. each (λ x. declares bytes ends erased scope line is_redim preserve x N D) (items declarator (over see v))) s r b d b' d'

-- DIM SHARED
abbrev pub sharing : Declarator Seen → Sized
sharing x N D = enter (some N) (dim_shared_row x.name (is_some x.dimensions))

-- all of the list that stands there shared
pub record SharesAll (ws : List ℕ) (at : ℕ) (s r : Counts) (b b' : List ℕ) : Type 0 where
  pub does : (ns : List ℕ) (n : ℕ) (v : Tree Expr (one (many DeclaratorRow))) (end : ℕ) → Stands ws ns n at v end
      → Rows (λ N D. each (λ x. sharing x N D) (items declarator (over see v))) s r b b'

-- the same where the statement says SHARED
pub record Shares (ws : List ℕ) (scope line : ℕ) (shared : Bool) (at : ℕ) (s r : Counts) (b d b' d' : List ℕ) : Type 0 where
  pub does : (bytes ends erased ns : List ℕ) (n : ℕ) (v : Tree Expr (one (many DeclaratorRow))) (end : ℕ) → Stands ws ns n at v end
      → Does (λ N D. when shared (dim_shared (given (some N) (some D) bytes ends erased) scope line (items declarator (over see v)))) s r b d b' d'
