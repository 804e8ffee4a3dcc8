-- A state of collecting whose rows are a lent table's, whose diagnostics name names and which has room for both, and the few things that collecting does to
-- a state, as steps that keep it so. Assumes nothing.
use Rattle.std.specs.Prelude.{ℕ, ◌≤◌, ◌<◌, ◌≡◌, Bool, length}
use Rattle.std.proofs.Common.{zero-le}
use Rattle.std.proofs.Math.Path.{refl}
use Rattle.std.proofs.Math.Bool.{true, false}
use mathlib.Core.List.{List, [], ◌∷◌, ◌++◌}
use Rattle.std.proofs.Math.Option.{some}
use Rattle.std.proofs.Math.ListN.{get_or}
use Rattle.base_words.specs.Word.{kind_of, pick}
use Rattle.base_words.specs.Each.{Each}
use Rattle.rows_table.specs.Rows.{Row, width, note_width, key, find, insert, insert_all, remove, replace, Table, Holds}
use Rattle.rows_table.specs.Laws.{insert_table, remove_table}
use Rattle.rows_table.specs.Each.{each_insert, each_remove, each_find, find_key, wide_each}
use Rattle.rows_table.specs.Images.{table_wide}
use Rattle.rows_lent.specs.Rules.{scope_ok, row_ok}
use Rattle.rows_lent.specs.Lent.{AllOk, Lent}
use Rattle.fold_const_eval.specs.Evaluates.{Consts}
use Rattle.fold_const_eval.specs.RowLaws.{consts_none, consts_other, consts_remove}
use Rattle.collect_buffers.specs.State.{State, running, stopped, Step, nothing, when, asking, each, stop, fits, change, enter, push}
use Rattle.collect_buffers.specs.Refused.{zeroing}
use Rattle.collect_definition.specs.Collect.{Given}

-- word 1 of each row has 32 bits
abbrev pub Narrow : List Row → Type 0
Narrow rows = Each (λ r. get_or r 1 0 < 4294967296) rows

-- each of a diagnostic's two names is 0 or a name's number plus 1
pub record FineNote (ns : List ℕ) (r : Row) : Type 0 where
  pub first : scope_ok ns (get_or r 2 0) ≡ true
  pub second : scope_ok ns (get_or r 3 0) ≡ true

-- what holds of each of two lists holds of each of both, one after the other
pub each_append : {A : Type 0} (P : A → Type 0) (xs ys : List A) → Each P xs → Each P ys → Each P (xs ++ ys)
unfolding Each
each_append P [] ys a b = b
each_append P (x ∷ xs) ys a b = (a.0, each_append P xs ys a.1 b)

module _ (ns : List ℕ) (n : ℕ) where
  -- ---- rows: they rise, each is in order by itself, each CONST holds a value; or the run stopped with a number that leaves zeros
  pub record GoodRows (rows : List Row) : Type 0 where
    pub table : Table 0 rows
    pub ok : AllOk ns rows
    pub narrow : Narrow rows
    pub consts : Consts n rows

  -- a state is good: its rows are, or its number leaves zeros
  abbrev pub Good : State → Type 0
  Good (running rows notes) = GoodRows rows
  Good (stopped k) = zeroing k ≡ true

  -- a row that may be entered
  pub record Entry (r : Row) : Type 0 where
    pub wide : length r ≡ width
    pub ok : row_ok ns r ≡ true
    pub narrow : get_or r 1 0 < 4294967296
    pub consts : (rows : List Row) → Consts n rows → Consts n (insert r rows)

  -- no rows are good rows
  pub no_rows_lem : GoodRows []
  unfolding Each
  no_rows_lem = record { table = tt; ok = tt; narrow = tt; consts = consts_none n }

  -- a row that is no CONST
  pub other : (r : Row) → length r ≡ width → row_ok ns r ≡ true → (kind_of (get_or r 0 0) ≡ 132 → ⊥) → get_or r 1 0 < 4294967296 → Entry r
  other r w o k h = record { wide = w; ok = o; narrow = h; consts = λ rows C. consts_other C r k h }

  -- good rows stay good when a row is entered that may be
  pub insert_good : (r : Row) (rows : List Row) → Entry r → GoodRows rows → GoodRows (insert r rows)
  insert_good r rows E g =
      record {
        table = insert_table 0 r rows g.table E.wide zero-le;
        ok = each_insert (λ r. row_ok ns r ≡ true) r rows E.ok g.ok;
        narrow = each_insert (λ r. get_or r 1 0 < 4294967296) r rows E.narrow g.narrow;
        consts = E.consts rows g.consts;
      }

  -- when several such rows are
  pub insert_all_good : (new rows : List Row) → Each Entry new → GoodRows rows → GoodRows (insert_all new rows)
  unfolding Each insert_all
  insert_all_good [] rows E g = g
  insert_all_good (r ∷ rs) rows E g = insert_all_good rs (insert r rows) E.1 (insert_good r rows E.0 g)

  -- when rows are taken out and several entered
  pub replace_good : (lo hi : ℕ) (new rows : List Row) → lo ≤ hi → Each Entry new → GoodRows rows → GoodRows (replace lo hi new rows)
  unfolding replace
  replace_good lo hi new rows h E g =
      insert_all_good new (remove lo hi rows) E (record {
        table = remove_table 0 lo hi rows h g.table;
        ok = each_remove (λ r. row_ok ns r ≡ true) lo hi rows h g.ok;
        narrow = each_remove (λ r. get_or r 1 0 < 4294967296) lo hi rows h g.narrow;
        consts = consts_remove g.consts lo hi h;
      })

  -- ---- a row that is there

  -- the row of the key k, in order by itself
  pub record Found (k : ℕ) (r : Row) : Type 0 where
    pub is : key r ≡ k
    pub wide : length r ≡ width
    pub ok : row_ok ns r ≡ true
    pub narrow : get_or r 1 0 < 4294967296

  -- what is found has the key and is in order
  pub found : (k : ℕ) (rows : List Row) (r : Row) → GoodRows rows → find k rows ≡ some r → Found k r
  found k rows r g e =
      record {
        is = find_key k rows r e;
        wide = each_find (λ r. length r ≡ width) k rows r (wide_each width rows (table_wide 0 rows g.table)) e;
        ok = each_find (λ r. row_ok ns r ≡ true) k rows r g.ok e;
        narrow = each_find (λ r. get_or r 1 0 < 4294967296) k rows r g.narrow e;
      }

  -- ---- what it is for

  -- a buffer that holds such rows is a lent table
  pub good_lent : {rows : List Row} {count : ℕ} {buf : List ℕ} → GoodRows rows → Holds rows count buf → Lent ns rows count buf
  good_lent g H = record { holds = H; ok = g.ok }

-- ---- steps

module _ (ns : List ℕ) (n : ℕ) (G : Given) where
  -- the diagnostics are such, and both they and the rows have room; a run that stopped has none
  abbrev pub Bounded : State → Type 0
  Bounded (running rows notes) = Each (FineNote ns) notes × (fits note_width G.note_room notes ≡ true) × (fits width G.row_room rows ≡ true)
  Bounded (stopped k) = Unit {0}

  -- a step that keeps a state good, and a good one bounded
  pub record Keeps (f : Step) : Type 0 where
    pub on : (st : State) → Good ns n st → Good ns n (f st)
    pub bounded : (st : State) → Good ns n st → Bounded st → Bounded (f st)

  -- pushing a diagnostic that names names keeps a state good and bounded
  pub push_k : {note : Row} → FineNote ns note → Keeps (push G.note_room note)
  unfolding push zeroing Each
  push_k {note} F = record { on = by; bounded = bound }
    where
      go : (rows notes : List Row) (b : Bool) → GoodRows ns n rows → Good ns n (pick b (running rows notes) (stopped 8))
      go rows notes true g = g
      go rows notes false g = refl

      by : (st : State) → Good ns n st → Good ns n (push G.note_room note st)
      by (running rows notes) g = go rows (notes ++ (note ∷ [])) (fits note_width G.note_room (notes ++ (note ∷ []))) g
      by (stopped k) g = g

      room : (rows notes : List Row) (b : Bool) → fits note_width G.note_room notes ≡ b → Each (FineNote ns) notes → fits width G.row_room rows ≡ true → Bounded (pick b (running rows notes) (stopped 8))
      room rows notes true q a r = (a, q, r)
      room rows notes false q a r = tt

      bound : (st : State) → Good ns n st → Bounded st → Bounded (push G.note_room note st)
      bound (running rows notes) g h = room rows (notes ++ (note ∷ [])) (fits note_width G.note_room (notes ++ (note ∷ []))) refl (each_append (FineNote ns) notes (note ∷ []) h.0 (F, tt)) h.2
      bound (stopped k) g h = tt

  -- so does a change that makes good rows of good rows
  pub change_k : (f : List Row → List Row) → ((rows : List Row) → GoodRows ns n rows → GoodRows ns n (f rows)) → Keeps (change G.row_room f)
  unfolding change zeroing
  change_k f h = record { on = by; bounded = bound }
    where
      go : (rows notes : List Row) (b : Bool) → GoodRows ns n rows → Good ns n (pick b (running rows notes) (stopped 7))
      go rows notes true g = g
      go rows notes false g = refl

      by : (st : State) → Good ns n st → Good ns n (change G.row_room f st)
      by (running rows notes) g = go (f rows) notes (fits width G.row_room (f rows)) (h rows g)
      by (stopped k) g = g

      room : (rows notes : List Row) (b : Bool) → fits width G.row_room rows ≡ b → Each (FineNote ns) notes → fits note_width G.note_room notes ≡ true → Bounded (pick b (running rows notes) (stopped 7))
      room rows notes true q a r = (a, r, q)
      room rows notes false q a r = tt

      bound : (st : State) → Good ns n st → Bounded st → Bounded (change G.row_room f st)
      bound (running rows notes) g b = room (f rows) notes (fits width G.row_room (f rows)) refl b.0 b.1
      bound (stopped k) g b = tt

  -- entering a row that may be entered
  pub enter_k : (r : Row) → Entry ns n r → Keeps (enter G.row_room r)
  unfolding enter
  enter_k r E = change_k (insert r) (λ rows g. insert_good ns n r rows E g)

  -- doing nothing
  pub nothing_k : Keeps nothing
  nothing_k = record { on = λ st g. g; bounded = λ st g b. b }

  -- stopping with 9
  pub stop_k : Keeps (stop 9)
  unfolding stop zeroing
  stop_k = record { on = by; bounded = bound }
    where
      by : (st : State) → Good ns n st → Good ns n (stop 9 st)
      by (running rows notes) g = refl
      by (stopped m) g = g

      bound : (st : State) → Good ns n st → Bounded st → Bounded (stop 9 st)
      bound (running rows notes) g b = tt
      bound (stopped m) g b = tt

  -- two steps that keep it so, in turn
  pub then_k : {f h : Step} → Keeps f → Keeps h → Keeps (λ st. h (f st))
  then_k {f} F H = record { on = λ st g. H.on (f st) (F.on st g); bounded = λ st g b. H.bounded (f st) (F.on st g) (F.bounded st g b) }

  -- the one of two that a test picks; each need keep it so only where it is picked
  pub pick_k : {f h : Step} (b : Bool) → (b ≡ true → Keeps f) → (b ≡ false → Keeps h) → Keeps (pick b f h)
  pick_k true F H = F refl
  pick_k false F H = H refl

  -- a step under a test; it need keep it so only where the test holds
  pub if_k : {f : Step} (b : Bool) → (b ≡ true → Keeps f) → Keeps (when b f)
  if_k true F = F refl
  if_k false F = nothing_k

  -- a step that keeps it so, under a test
  pub when_k : {f : Step} (b : Bool) → Keeps f → Keeps (when b f)
  when_k b F = if_k b (λ e. F)

  -- a step that the rows decide, where each that good rows may choose keeps it so
  pub asking_k : {f : List Row → Step} → ((rows : List Row) → GoodRows ns n rows → Keeps (f rows)) → Keeps (asking f)
  unfolding asking
  asking_k {f} F = record { on = by; bounded = bound }
    where
      by : (st : State) → Good ns n st → Good ns n (asking f st)
      by (running rows notes) g = (F rows g).on (running rows notes) g
      by (stopped k) g = g

      bound : (st : State) → Good ns n st → Bounded st → Bounded (asking f st)
      bound (running rows notes) g b = (F rows g).bounded (running rows notes) g b
      bound (stopped k) g b = tt

  -- a step for each of a list, where it keeps it so for each element as P says
  pub each_k : {A : Type 0} {P : A → Type 0} {f : A → Step} → ((x : A) → P x → Keeps (f x)) → (xs : List A) → Each P xs → Keeps (each f xs)
  unfolding each Each
  each_k F [] a = nothing_k
  each_k F (x ∷ xs) a = then_k (F x a.0) (each_k F xs a.1)
