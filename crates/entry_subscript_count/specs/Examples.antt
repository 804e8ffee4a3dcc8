-- Worked examples of the entry behind the checks of sizes and strings: first uses, the order of the numbers, and the places.
use Rattle.std.specs.Prelude.{ℕ, ◌≡◌, refl, List, [], ◌∷◌}
use Rattle.std.proofs.Math.Option.{none as nothing, some}
use Rattle.base_words.specs.Told.{stops, gives, after, unless}
use Rattle.tree_expr.specs.Expr.{many}
use Rattle.tree_expr.specs.Got.{bind}
use Rattle.tree_expr.specs.Reader.{raw_at, test_at, leaf_at, name_at, head_at, float_at, literal_body, literal_at, exprs_at, list_at, body_at, expr_at}
use Rattle.tree_stmt.specs.Sorts.{sorts, kind_at, kinds}
use Rattle.tree_stmt.specs.Reader.{word_at, never_at, is_at, stmt_head, rows_at, field_at, row_at, rest_at, stmt_at, program_at}
use Rattle.entry_read.specs.Program.{program_of, whole_of}
use Rattle.tree_views.specs.View.{items, rows_of, lvalue, optional, expressions, expression}
use Rattle.tree_views.specs.Uses.{uses, plain, own}
use Rattle.collect_subscript_count.specs.Subscripts.{or_else, first_of, subscripted, in_expr, in_exprs, indexed, in_lvalue, in_stmt, subscript_count}
use Rattle.entry_subscript_count.specs.Count.{count_of}

-- the names A and X, and a string that is none
abbrev marks : List ℕ
marks = 1 ∷ 1 ∷ 0 ∷ []

-- X = A(1); and a word over
abbrev called : List ℕ
called = 0x01000001 ∷ 0x42000001 ∷ 0x02000001 ∷ 0 ∷ 0x15000000 ∷ 0x02000000 ∷ 0x01000001 ∷ 0x10000000 ∷ 0x18000000 ∷ 1 ∷ []

abbrev over : List ℕ
over = 0x01000001 ∷ 0x42000001 ∷ 0x02000001 ∷ 0 ∷ 0x15000000 ∷ 0x02000000 ∷ 0x01000001 ∷ 0x10000000 ∷ 0x18000000 ∷ 1 ∷ 77 ∷ []

-- X = A(); A() = X; A(X, X) = A(X)
abbrev empty : List ℕ
empty = 0x01000001 ∷ 0x42000001 ∷ 0x02000001 ∷ 0 ∷ 0x15000000 ∷ 0x02000000 ∷ 0x01000000 ∷ []

abbrev target : List ℕ
target = 0x01000001 ∷ 0x42000001 ∷ 0x02000000 ∷ 0x01000000 ∷ 0x11000000 ∷ 0x02000001 ∷ []

abbrev both : List ℕ
both = 0x01000001 ∷ 0x42000001 ∷ 0x02000000 ∷ 0x01000002 ∷ 0x11000000 ∷ 0x02000001 ∷ 0x11000000 ∷ 0x02000001 ∷ 0x12000000 ∷ 0x02000000 ∷ 0x01000001 ∷ 0x11000000 ∷ 0x02000001 ∷ []

-- no list counts where it is empty, but as a target; the target comes first
pub answered :
    (count_of marks called 0 ≡ gives (some 1))
    × (count_of marks called 1 ≡ gives nothing)
    × (count_of marks empty 0 ≡ gives nothing)
    × (count_of marks target 0 ≡ gives (some 0))
    × (count_of marks both 0 ≡ gives (some 2))
    × (count_of marks (0x01000000 ∷ []) 0 ≡ gives nothing)
unfolding count_of program_of whole_of after unless program_at field_at row_at rows_at rest_at stmt_at stmt_head word_at never_at is_at raw_at test_at leaf_at name_at head_at float_at literal_body literal_at exprs_at list_at body_at expr_at bind sorts kind_at kinds subscript_count in_stmt first_of in_lvalue indexed in_expr in_exprs subscripted or_else many uses plain own items rows_of lvalue optional expressions expression
answered = (refl, refl, refl, refl, refl, refl)

-- a string that is no name, a number of no string; the tree before the name: a wrong word, an early end, a word over
pub stopped :
    (count_of marks called 2 ≡ stops 11 0)
    × (count_of marks called 3 ≡ stops 11 0)
    × (count_of marks (0x01000001 ∷ 0x42000001 ∷ 0x02000002 ∷ []) 3 ≡ stops 2 2)
    × (count_of marks (0x01000001 ∷ 0x42000001 ∷ 0x02000001 ∷ []) 0 ≡ stops 2 3)
    × (count_of marks over 3 ≡ stops 2 10)
    × (count_of marks [] 0 ≡ stops 2 0)
unfolding count_of program_of whole_of after unless program_at field_at row_at rows_at rest_at stmt_at stmt_head word_at never_at is_at raw_at test_at leaf_at name_at head_at float_at literal_body literal_at exprs_at list_at body_at expr_at bind sorts kind_at kinds
stopped = (refl, refl, refl, refl, refl, refl)
