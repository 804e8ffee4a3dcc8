-- What readers of parts tell, of whatever tree stands at the place. Definitions only.
use Rattle.std.specs.Prelude.{ℕ, ◌<◌, ◌≡◌, true, List, eqb, get_or, Option as RustOption, None, Some}
use Rattle.std.proofs.Math.Option.{Option, none, some}
use Rattle.base_strings.specs.Table.{sound, names_of}
use Rattle.tree_expr.specs.Expr.{Expr}
use Rattle.tree_stmt.specs.Sorts.{TypeRef as TypeSort, opt, nil, ◌&◌}
use Rattle.tree_stmt.specs.Tree.{Tree, one}
use Rattle.tree_stmt.specs.Stands.{Stands}
use Rattle.rows_lookup.specs.declared.Typed.{Typed}
use Rattle.tree_views.specs.View.{TypeRef, head, arg, optional, type_ref, as_type}

-- a type as a row has it
abbrev pub written : TypeRef → Typed
written t = record { head = head t; arg = arg t }

-- or none
abbrev pub written_if : Option TypeRef → RustOption Typed
written_if none = None
written_if (some t) = Some (written t)

-- its two words in a row, 0 where there is none
abbrev pub head_word : RustOption Typed → ℕ
head_word None = 0
head_word (Some t) = t.head

-- the argument
abbrev pub arg_word : RustOption Typed → ℕ
arg_word None = 0
arg_word (Some t) = t.arg

-- the type there, and the place past it
pub record TypeIs (ws : List ℕ) (at : ℕ) (t : Typed) (next : ℕ) : Type 0 where
  pub is : (ns : List ℕ) (n : ℕ) (v : Tree Expr (one TypeSort)) (end : ℕ) → Stands ws ns n at v end → (t ≡ written (type_ref v)) × (next ≡ end)
  pub small : t.arg < 16777216

-- the AS clause there, if any
pub record AsTypeIs (ws : List ℕ) (at : ℕ) (t : RustOption Typed) (next : ℕ) : Type 0 where
  pub is : (ns : List ℕ) (n : ℕ) (v : Tree Expr (one (opt (TypeSort & nil)))) (end : ℕ) → Stands ws ns n at v end → (t ≡ written_if (optional as_type v)) × (next ≡ end)
  pub small : arg_word t < 16777216

-- the string of that number is a name, and the strings are sound
pub record NameAt (bytes ends : List ℕ) (name : ℕ) : Type 0 where
  pub strings : sound bytes ends ≡ true
  pub marked : eqb (get_or (names_of bytes ends) name 0) 1 ≡ true
