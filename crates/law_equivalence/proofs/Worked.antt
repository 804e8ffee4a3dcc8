-- Document 01's worked example, by computation on the definition: `DIM A(5)` on line 1, `X = (A(2))` on line 2. Assumes nothing.
use Prim.Native.Nat.{ℕ}
use mathlib.Core.Path.{◌≡◌, refl}
use mathlib.Core.List.{List, [], ◌∷◌}
use mathlib.Core.Option.{Option, none as absent, some}
use Rattle.base_words.specs.Told.{Told, stops, gives, after, unless}
use Rattle.base_strings.specs.Name.{between, inner, suffix, rest, is_name}
use Rattle.base_strings.specs.Order.{order}
use Rattle.base_strings.specs.Table.{start_of, string_at, all_printable, end_right, rises, last_right, right_at, all_below, sound, marks_below, names_of}
use Rattle.base_strings.specs.Open.{entry_of}
use Rattle.tree_expr.specs.Expr.{many as count, words_l, words, words_all}
use Rattle.tree_expr.specs.Got.{bind}
use Rattle.tree_expr.specs.Reader.{raw_at, test_at, leaf_at, name_at, head_at, float_at, literal_body, literal_at, exprs_at, list_at, body_at, expr_at}
use Rattle.tree_stmt.specs.Sorts.{sorts, kind_at, kinds, number_of}
use Rattle.tree_stmt.specs.Tree as Trees
use Rattle.tree_stmt.specs.Tree.{words_t}
use Rattle.tree_stmt.specs.Reader.{word_at, never_at, is_at, stmt_head, rows_at, field_at, row_at, rest_at, stmt_at, program_at}
use Rattle.entry_read.specs.Sized.{sized_strings, sized_tree, sized_program}
use Rattle.entry_read.specs.Program.{whole_of, erased_from, program_of, accepted_of}
use Rattle.rows_table.specs.Rows.{Row}
use Rattle.rows_lookup.specs.Lookup.{shares, visible, lookup_array}
use Rattle.collect_definition.specs.Examples.{opened_both}
use Rattle.collect_definition.specs.Collect.{collected, analysed}
use Rattle.resolve_definition.specs.Tables.{nowhere, places, after as past, element}
use Rattle.resolve_definition.specs.FromRows.{tables_of}
use Rattle.resolve_definition.specs.Resolve.{passed, called, resolve_expr, resolve_args, first, inside, argued, resolve_tree, resolve_array_accesses}
use Rattle.law_equivalence.specs.Analysis.{Analysis, result_of, analysis}

-- the strings A and X
abbrev pub bytes : List ℕ
bytes = 65 ∷ 88 ∷ []

-- their ends
abbrev pub ends : List ℕ
ends = 1 ∷ 2 ∷ []

-- the DIM, and the LET whose A(2) is still a call in parentheses
abbrev pub tree : List ℕ
tree =
    0x01000002 ∷ 0x4f000001 ∷ 0x01000001 ∷ 0x02000000 ∷ 0x01000001 ∷ 0x10000000 ∷ 0x18000000 ∷ 0x00000005 ∷ 0x01000000 ∷ 0x00000000 ∷ 0x03000000 ∷
    0x42000002 ∷ 0x02000001 ∷ 0x00000000 ∷ 0x17000000 ∷ 0x15000000 ∷ 0x02000000 ∷ 0x01000001 ∷ 0x10000000 ∷ 0x18000000 ∷ 0x00000002 ∷ []

-- what is printed of an answer: diagnostics, rows, resolved words
pub record Printed : Type 0 where
  pub notes : List Row
  pub rows : List Row
  pub resolved : List ℕ

-- of what was told; nothing of a refusal
abbrev pub printed : Told Analysis → Option Printed
printed (stops n p) = absent
printed (gives a) = some (record { notes = a.diagnostics; rows = a.rows; resolved = a.resolved })

-- no diagnostic, document 01's T line and its R line
pub worked : printed (analysis absent absent 0 bytes ends [] tree) ≡ some (record {
  notes = [];
  rows = (0x85000000 ∷ 0 ∷ 1 ∷ 1 ∷ 0 ∷ 0 ∷ []) ∷ [];
  resolved =
      0x01000002 ∷ 0x4f000001 ∷ 0x01000001 ∷ 0x02000000 ∷ 0x01000001 ∷ 0x10000000 ∷ 0x18000000 ∷ 0x00000005 ∷ 0x01000000 ∷ 0x00000000 ∷ 0x03000000 ∷
      0x42000002 ∷ 0x02000001 ∷ 0x00000000 ∷ 0x12000000 ∷ 0x02000000 ∷ 0x01000001 ∷ 0x10000000 ∷ 0x18000000 ∷ 0x00000002 ∷ [];
})
unfolding after unless between inner suffix rest is_name order start_of string_at all_printable end_right rises last_right right_at all_below sound marks_below names_of entry_of count words_l words words_all bind raw_at test_at leaf_at name_at head_at float_at literal_body literal_at exprs_at list_at body_at expr_at sorts kind_at kinds number_of Trees.count words_t word_at never_at is_at stmt_head rows_at field_at row_at rest_at stmt_at program_at sized_strings sized_tree sized_program whole_of erased_from program_of accepted_of opened_both collected analysed nowhere places past element tables_of shares visible lookup_array passed called resolve_expr resolve_args first inside argued resolve_tree resolve_array_accesses result_of analysis
worked = refl
