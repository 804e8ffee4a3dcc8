-- What the code of the collision check asks and promises. Definitions only.
use Rattle.std.specs.Prelude.{ℕ, ◌+◌, ◌*◌, ◌≤◌, ◌<◌, ◌≡◌, true, List, [], length, get_or}
use Rattle.std.proofs.Math.Option.{some}
use Rattle.base_words.specs.Word.{kind_of, pay_of}
use Rattle.base_strings.specs.Table.{sound, names_of}
use Rattle.rows_lent.specs.Rules.{is_marked}
use Rattle.rows_table.specs.Rows.{Row, width, find, Holds}
use Rattle.rows_kinds.specs.Kinds.{entry_key}
use Rattle.collect_buffers.specs.declared.Counts.{Counts}
use Rattle.collect_buffers.specs.Held.{Does, Notes}
use Rattle.collect_definition.specs.Collect.{given, collides, check_name_collisions}

-- each array's name is a name's number
abbrev pub ArraysNamed : List ℕ → List Row → Type 0
ArraysNamed names rows = (i : ℕ) → i < length rows → kind_of (get_or (get_or rows i []) 0 0) ≡ 133 → is_marked names (pay_of (get_or (get_or rows i []) 0 0)) ≡ true

-- the buffer holds such rows
pub record NamesHeld (names : List ℕ) (s : Counts) (b : List ℕ) : Type 0 where
  pub rows : List Row
  pub holds : Holds rows s.rows b
  pub named : ArraysNamed names rows

-- what is asked: sound strings, and such rows where the run goes on
pub record Ready (bytes ends b : List ℕ) (s : Counts) : Type 0 where
  pub strings : sound bytes ends ≡ true
  pub held : s.stop ≡ 0 → NamesHeld (names_of bytes ends) s b

-- what is promised: the very step, whatever names are erased
pub record Checks (bytes ends : List ℕ) (s r : Counts) (b d d' : List ℕ) : Type 0 where
  pub does : (erased : List ℕ) → Does (λ N D. check_name_collisions (given (some N) (some D) bytes ends erased)) s r b d b d'

-- word 0 of row i, and word j
abbrev pub head_at : List ℕ → ℕ → ℕ
head_at b i = get_or b (i * width) 0

-- word j of row i
abbrev pub word_at : List ℕ → (i j : ℕ) → ℕ
word_at b i j = get_or b (i * width + j) 0

-- row i's name is a name's number
pub record NamedAt (bytes ends b : List ℕ) (count i : ℕ) : Type 0 where
  pub strings : sound bytes ends ≡ true
  pub inside : i < count
  pub fits : count * width ≤ length b
  pub named : is_marked (names_of bytes ends) (pay_of (head_at b i)) ≡ true

-- what is done for it, whatever rows the buffer holds
pub record Collides (bytes ends b : List ℕ) (count i : ℕ) (s r : Counts) (d d' : List ℕ) : Type 0 where
  pub does : (rows : List Row) → Holds rows count b → (erased : List ℕ)
      → Notes (λ N D. collides (given (some N) (some D) bytes ends erased) (word_at b i 3) (pay_of (head_at b i)) (find (entry_key 135 (pay_of (head_at b i)) 0) rows)) s r d d'
