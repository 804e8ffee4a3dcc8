-- `find` looks at the place of the key: `find_hit` and `find_miss` say what stands there. Assumes nothing.
use Rattle.std.specs.Prelude.{◌≡◌, refl, Bool, true, false, List, [], ℕ, ◌<◌, eqb, length, get_or}
use Rattle.std.specs.Bool.{then_some}
use Rattle.std.proofs.Common.{◌∙◌, sym, arith, eqb-true, le-ltb}
use Rattle.std.proofs.lemmas.Bool.{eqb-false}
use Rattle.rows_table.specs.Rows.{Row, Table, key, rank, find}
use Rattle.rows_table.specs.Answers.{found_at}
use Rattle.rows_table.specs.Laws.{find_hit, find_miss}
use Rattle.rows_table.specs.Buffers.{key_there}
use Rattle.rows_table.proofs.rows.Rows.find.Goals.{then-p-self, else-p-self}
use Rattle.rows_table.proofs.rows.Rows.find.Goals as goal

-- at the place of the key, a row of the table has the key x
at_place : (k x : ℕ) (rows : List Row) → Table 0 rows → rank k rows < length rows → x ≡ key (get_or rows (rank k rows) []) → then_some (eqb x k) (rank k rows) ≡ found_at (rank k rows) (find k rows)
at_place k x rows t h e = go (eqb x k) refl
  where
    go : (same : Bool) → eqb x k ≡ same → then_some same (rank k rows) ≡ found_at (rank k rows) (find k rows)
    go true q = rw (find_hit k rows h (sym e ∙ eqb-true x k q)) refl
    go false q = rw (find_miss 0 k rows t (λ _ f. eqb-false x k q (e ∙ f))) refl

pub returns-clause-found : goal.returns-clause-found
returns-clause-found c = λ rows H.
    let a = c.args in
    let p_is : c.lower_bound-p.result ≡ rank a.k rows = c.lower_bound-p.ensures.ranked rows H in
    rw (c.then_some.ensures, p_is) (elim c.if-p-self.branch [
      | then-p-self w ↦
          rw w.then_some-is (at_place a.k w.key.result rows H.table (omega (arith, H.filled.count)) (key_there rows a.self.now.count a.self.now.words.now H a.k c.lower_bound-p.result p_is w.if-p-self.true w.key.result w.key.ensures))
      | else-p-self w ↦
          rw (w.then_some-is, le-ltb c.lower_bound-p.result a.self.now.count w.if-p-self.false, find_miss 0 a.k rows H.table (λ h _. omega (arith, w.if-p-self.false, p_is, H.filled.count))) refl
    ])
