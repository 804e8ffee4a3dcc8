-- How the visible row comes out in each case. Assumes nothing.
use Rattle.std.specs.Prelude.{◌≡◌, Bool, true, false, List, ℕ, ◌-◌}
use Rattle.std.proofs.Common.{sym, ◌∙◌, eq-eqb, ne_eqb}
use Rattle.std.proofs.Math.Path.{ap}
use Rattle.std.proofs.Math.Option.{Option, none, some}
use Rattle.base_words.specs.Word.{pick}
use Rattle.rows_table.specs.Rows.{Row, find}
use Rattle.rows_table.specs.Laws.{pick_true, pick_false}
use Rattle.rows_kinds.specs.Kinds.{entry_key}
use Rattle.rows_lookup.specs.Lookup.{shares, or_else, visible}

module _ (rows : List Row) (kind scope name : ℕ) (array : Bool) where
  -- at module level
  pub visible_module : scope ≡ 0 → visible rows kind scope name array ≡ find (entry_key kind name scope) rows
  unfolding visible
  visible_module e =
      pick_true (find (entry_key kind name 0) rows) (or_else (find (entry_key kind name scope) rows) (pick (shares rows (scope - 1) name array) (find (entry_key kind name 0) rows) none)) (eq-eqb scope 0 e)
      ∙ ap (λ (s : ℕ). find (entry_key kind name s) rows) (sym e)

  module _ (proc : scope ≡ 0 → ⊥) where
    inside : visible rows kind scope name array ≡ or_else (find (entry_key kind name scope) rows) (pick (shares rows (scope - 1) name array) (find (entry_key kind name 0) rows) none)
    unfolding visible
    inside =
        pick_false (find (entry_key kind name 0) rows) (or_else (find (entry_key kind name scope) rows) (pick (shares rows (scope - 1) name array) (find (entry_key kind name 0) rows) none)) (ne_eqb scope 0 proc)

    -- the procedure's own
    pub visible_own : (r : Row) → find (entry_key kind name scope) rows ≡ some r → visible rows kind scope name array ≡ some r
    visible_own r e = inside ∙ ap (λ (o : Option Row). or_else o (pick (shares rows (scope - 1) name array) (find (entry_key kind name 0) rows) none)) e

    module _ (own : find (entry_key kind name scope) rows ≡ none) where
      others : visible rows kind scope name array ≡ pick (shares rows (scope - 1) name array) (find (entry_key kind name 0) rows) none
      others = inside ∙ ap (λ (o : Option Row). or_else o (pick (shares rows (scope - 1) name array) (find (entry_key kind name 0) rows) none)) own

      -- the module's, where the procedure shares it
      pub visible_shared : shares rows (scope - 1) name array ≡ true → visible rows kind scope name array ≡ find (entry_key kind name 0) rows
      visible_shared s = others ∙ pick_true (find (entry_key kind name 0) rows) none s

      -- none, where it shares it not
      pub visible_hidden : shares rows (scope - 1) name array ≡ false → visible rows kind scope name array ≡ none
      visible_hidden s = others ∙ pick_false (find (entry_key kind name 0) rows) none s
