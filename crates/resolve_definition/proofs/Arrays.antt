-- The arrays of a name, by the row at the place of the module's; and whether one is visible, by the rows that there are. Assumes nothing.
use Prim.Native.Nat.{ℕ, ◌+◌, ◌-◌, ◌*◌, ◌/◌, ◌%◌, ◌≤◌, ◌<◌}
use native.Mathlib.Omega.{arith}
use mathlib.Core.Path.{◌≡◌, refl, sym, ap, ◌∙◌}
use mathlib.Core.Bool.{Bool, true, false, ◌&&◌, ◌||◌}
use mathlib.Core.List.{List, []}
use mathlib.Core.Logic.{◌⊎◌, inl, inr}
use mathlib.Core.Option.{Option, none, some}
use lib.Dec.{eqb}
use lib.ListN.{length, get_or}
use borrow.Author.Tests.{eqb-true, eqb-false, ne_eqb}
use Rattle.base_words.specs.Word.{word_of, pick}
use Rattle.rows_table.specs.Rows.{Row, width, key, key_of, rank, find, Table, Holds}
use Rattle.rows_table.specs.Laws.{order, ne_lt, rank_low, rank_mono, rank_high, find_hit, find_miss}
use Rattle.rows_table.specs.Images.{key_of_row}
use Rattle.rows_kinds.specs.Kinds.{entry_key, has_row, has}
use Rattle.rows_lookup.specs.Lookup.{shares, array_of, or_else, visible, lookup_array}
use Rattle.resolve_definition.specs.FromRows.{is_some, tables_of}
use Rattle.resolve_definition.specs.Scopes.{FirstScope, scope_of}
use Rattle.std.specs.Prelude.{Option as RustOption, Some, None}

-- ---- a key j, by the row at the place of a key k that is no larger

module _ (rows : List Row) (t : Table 0 rows) (k j : ℕ) (h : k ≤ j) where
  same_place : rank k rows < length rows → j ≤ key (get_or rows (rank k rows) []) → rank j rows ≡ rank k rows
  same_place l q = omega (arith, rank_low j rows (rank k rows) l q, rank_mono k j rows h)

  hit : rank k rows < length rows → key (get_or rows (rank k rows) []) ≡ j → find j rows ≡ some (get_or rows (rank k rows) [])
  hit l e =
      let s : rank j rows ≡ rank k rows = same_place l (omega arith) in
      let f : find j rows ≡ some (get_or rows (rank j rows) []) = find_hit j rows (omega arith) (ap (λ (i : ℕ). key (get_or rows i [])) s ∙ e) in
      f ∙ ap (λ (i : ℕ). some (get_or rows i [])) s

  miss : (rank k rows < length rows → j < key (get_or rows (rank k rows) [])) → find j rows ≡ none
  miss q = find_miss 0 j rows t (λ l e.
      let m : rank k rows < length rows = omega (arith, l, rank_mono k j rows h) in
      let s : rank j rows ≡ rank k rows = same_place m (omega (arith, q m)) in
      let e' : key (get_or rows (rank k rows) []) ≡ j = ap (λ (i : ℕ). key (get_or rows i [])) (sym s) ∙ e in
      omega (arith, q m, e'))

-- the row at the place of a key has no smaller one
at_least : (rows : List Row) (t : Table 0 rows) (k : ℕ) → rank k rows < length rows → k ≤ key (get_or rows (rank k rows) [])
at_least rows t k l = go (order (key (get_or rows (rank k rows) [])) k)
  where
    go : (key (get_or rows (rank k rows) []) < k) ⊎ (k ≤ key (get_or rows (rank k rows) [])) → k ≤ key (get_or rows (rank k rows) [])
    go (inl q) = absurd (omega (arith, rank_high 0 k rows t (rank k rows) l q))
    go (inr q) = q

-- ---- the least scope, by the key k of the row at the place p of the module's key

module _ {rows : List Row} {n : ℕ} {buf : List ℕ} (H : Holds rows n buf) (f p : ℕ) (e : p ≡ rank (entry_key 133 f 0) rows) where
  module _ (k : ℕ) (is : k ≡ key_of (get_or buf (p * width) 0) (get_or buf (p * width + 1) 0)) (l : p < n) where
    there_row : rank (entry_key 133 f 0) rows < length rows
    there_row = omega (arith, l, e, H.filled.count)

    key_there : k ≡ key (get_or rows (rank (entry_key 133 f 0) rows) [])
    key_there = is ∙ key_of_row H.filled p l ∙ ap (λ (i : ℕ). key (get_or rows i [])) e

    -- the row is an array of the name: its scope
    pub first_there : k / 4294967296 ≡ word_of 133 f → FirstScope rows f (k % 4294967296)
    first_there w =
        let q : key (get_or rows (rank (entry_key 133 f 0) rows) []) ≡ entry_key 133 f (k % 4294967296) = omega (arith, key_there, w) in
        record {
          below = λ σ h. ap has_row (miss rows H.table (entry_key 133 f 0) (entry_key 133 f σ) (omega arith) (λ _. omega (arith, q, h)));
          there = λ _. ap has_row (hit rows H.table (entry_key 133 f 0) (entry_key 133 f (k % 4294967296)) (omega arith) there_row q);
        }

    -- the row is of another name or kind, or there is none
    pub first_other : (k / 4294967296 ≡ word_of 133 f → ⊥) → FirstScope rows f 4294967295
    first_other w =
        let q : entry_key 133 f 0 ≤ key (get_or rows (rank (entry_key 133 f 0) rows) []) = at_least rows H.table (entry_key 133 f 0) there_row in
        let past : word_of 133 f < k / 4294967296 = omega (arith, q, key_there, w) in
        record {
          below = λ σ h. ap has_row (miss rows H.table (entry_key 133 f 0) (entry_key 133 f σ) (omega arith) (λ _. omega (arith, key_there, past, h)));
          there = λ h. absurd (omega (arith, h));
        }

  -- past the last row there is none
  pub first_end : n ≤ p → FirstScope rows f 4294967295
  first_end l = record {
    below = λ σ h. ap has_row (miss rows H.table (entry_key 133 f 0) (entry_key 133 f σ) (omega arith) (λ m. absurd (omega (arith, m, l, e, H.filled.count))));
    there = λ h. absurd (omega (arith, h));
  }

-- what is told of a least scope that there is, and where there is none
pub first_some : {rows : List Row} {f s : ℕ} {o : RustOption ℕ} → FirstScope rows f (scope_of o) → o ≡ Some s → FirstScope rows f s
unfolding scope_of
first_some F e = rw e at F

pub first_none : {rows : List Row} {f : ℕ} {o : RustOption ℕ} → FirstScope rows f (scope_of o) → o ≡ None → FirstScope rows f 4294967295
unfolding scope_of
first_none F e = rw e at F

-- ---- a visible array

some_array : (o : Option Row) → is_some (array_of o) ≡ has_row o
some_array none = refl
some_array (some r) = refl

has_visible : (z s : Bool) (own module' : Option Row) → has_row (pick z module' (or_else own (pick s module' none))) ≡ pick z (has_row module') (has_row own || (s && has_row module'))
has_visible true s own module' = refl
has_visible false s (some r) module' = refl
has_visible false true none module' = refl
has_visible false false none module' = refl

module _ (rows : List Row) (scope f : ℕ) where
  array_is : (tables_of rows).array scope f ≡ pick (eqb scope 0) (has rows 133 f 0) (has rows 133 f scope || (shares rows (scope - 1) f true && has rows 133 f 0))
  unfolding tables_of lookup_array visible
  array_is =
      some_array (visible rows 133 scope f true)
      ∙ has_visible (eqb scope 0) (shares rows (scope - 1) f true) (find (entry_key 133 f scope) rows) (find (entry_key 133 f 0) rows)

  -- the scope's own
  pub own_array : has rows 133 f scope ≡ true → true ≡ (tables_of rows).array scope f
  own_array e = go (eqb scope 0) refl
    where
      go : (z : Bool) → eqb scope 0 ≡ z → true ≡ (tables_of rows).array scope f
      go true q =
          let m : has rows 133 f 0 ≡ true = ap (λ (i : ℕ). has rows 133 f i) (sym (eqb-true scope 0 q)) ∙ e in
          rw (array_is, q, m)
      go false q = rw (array_is, q, e)

  -- neither the scope's own nor the module's
  pub no_array : has rows 133 f scope ≡ false → has rows 133 f 0 ≡ false → false ≡ (tables_of rows).array scope f
  no_array e m = go (eqb scope 0) (shares rows (scope - 1) f true) refl refl
    where
      go : (z s : Bool) → eqb scope 0 ≡ z → shares rows (scope - 1) f true ≡ s → false ≡ (tables_of rows).array scope f
      go true s q g = rw (array_is, q, m)
      go false true q g = rw (array_is, q, e, g, m)
      go false false q g = rw (array_is, q, e, g)

  -- the module's, where the procedure shares it
  pub shared_array : 0 < scope → has rows 133 f scope ≡ false → has rows 133 f 0 ≡ true → shares rows (scope - 1) f true ≡ (tables_of rows).array scope f
  shared_array h e m = go (shares rows (scope - 1) f true) refl
    where
      go : (s : Bool) → shares rows (scope - 1) f true ≡ s → shares rows (scope - 1) f true ≡ (tables_of rows).array scope f
      go true g = rw (array_is, ne_eqb scope 0 (λ z. omega (arith, z, h)), e, g, m)
      go false g = rw (array_is, ne_eqb scope 0 (λ z. omega (arith, z, h)), e, g)

  -- by the least scope, where the scope is no larger
  pub from_first : {s : ℕ} → FirstScope rows f s → scope ≤ s → scope ≤ 16777216 → eqb scope s ≡ (tables_of rows).array scope f
  from_first {s} F h b = go (eqb scope s) refl
    where
      go : (z : Bool) → eqb scope s ≡ z → eqb scope s ≡ (tables_of rows).array scope f
      go true q =
          let same : scope ≡ s = eqb-true scope s q in
          q ∙ own_array (ap (λ (i : ℕ). has rows 133 f i) same ∙ F.there (omega (arith, same, b)))
      go false q =
          let l : scope < s = ne_lt scope s h (λ z. eqb-false scope s q (sym z)) in
          q ∙ no_array (F.below scope l) (F.below 0 (omega (arith, l)))
