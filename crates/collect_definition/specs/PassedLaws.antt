-- What the checks' answer says of the program; that a program that passed is all of the words; and that no number of the checks leaves zeros. Assumes nothing.
use Rattle.std.specs.Prelude.{ℕ, ◌≤◌, ◌≡◌, refl, Bool, true, false, List, eqb, length, take, Result, Ok, Err}
use Rattle.std.proofs.Common.{sym, ap, ◌∙◌, subst, arith}
use Rattle.tree_stmt.specs.Tree.{Program}
use Rattle.base_words.specs.Word.{pick}
use Rattle.base_words.specs.Sizes.{max_strings}
use Rattle.base_words.specs.Told.{Told, stops, gives, after, unless}
use Rattle.base_words.specs.Refusals.{number_of, place_of, refused}
use Rattle.base_words.specs.declared.Refusal.{Refusal}
use Rattle.base_strings.specs.Table.{sound, Names, names_of}
use Rattle.base_strings.proofs.Laws.{names_length}
use Rattle.tree_expr.specs.Got.{Got, got, wrong, deep}
use Rattle.tree_stmt.specs.Reader.{program_at}
use Rattle.entry_read.specs.Program.{whole_of, erased_from, program_of, accepted_of, verdict, told as told_program}
use Rattle.entry_read.specs.Whole.{Whole, accepted_whole}
use Rattle.collect_buffers.specs.Refused.{zeroing}
use Rattle.collect_definition.specs.Code.{Named}
use Rattle.collect_definition.specs.Passed.{Passed}

-- the marks of the names, as a part of an array
pub marks_named : {bytes ends marks : List ℕ} → sound bytes ends ≡ true → Names bytes ends marks → Named bytes ends (take (length ends) marks)
marks_named s n = record { strings = s; names = n.first }

-- ---- the checks' answer

verdict_stops : {A : Type 0} (t : Told A) {n p : ℕ} → stops n p ≡ verdict t → t ≡ stops n p
unfolding verdict
verdict_stops (stops n p) e = cc
verdict_stops (gives a) e = let z : ◌≡◌ {A = ℕ} 0 1 = cc in absurd (omega arith)

record IsGiven {A : Type 0} (t : Told A) : Type 0 where
  value : A
  is : t ≡ gives value

verdict_gives : {A : Type 0} (t : Told A) → gives tt ≡ verdict t → IsGiven t
unfolding verdict
verdict_gives (stops n p) e = let z : ◌≡◌ {A = ℕ} 0 1 = cc in absurd (omega arith)
verdict_gives (gives a) e = record { value = a; is = refl }

by_names : {bytes ends marks : List ℕ} (erased ws : List ℕ) (a : Result (Unit {0}) Refusal) → Named bytes ends marks → told_program a ≡ verdict (accepted_of marks ws erased)
    → told_program a ≡ verdict (accepted_of (names_of bytes ends) ws erased)
by_names erased ws a N e = e ∙ ap (λ (ns : List ℕ). verdict (accepted_of ns ws erased)) N.names

-- the code's Ok: the program is accepted
pub passed : {bytes ends erased ws marks : List ℕ} {a : Result (Unit {0}) Refusal} → Named bytes ends marks → length marks ≤ max_strings → told_program a ≡ verdict (accepted_of marks ws erased) → a ≡ (Ok tt)
    → Passed bytes ends erased ws marks
unfolding told_program
passed {bytes} {ends} {erased} {ws} {a = a} N few e q =
    let g = verdict_gives (accepted_of (names_of bytes ends) ws erased) (sym (ap told_program q) ∙ by_names erased ws a N e) in
    record { named = N; few = few; program = g.value; accepted = g.is }

-- the code's refusal: the definition stops with its number and place
pub not_passed : {bytes ends marks : List ℕ} (erased ws : List ℕ) {a : Result (Unit {0}) Refusal} {f : Refusal} → Named bytes ends marks → told_program a ≡ verdict (accepted_of marks ws erased) → a ≡ Err f
    → accepted_of (names_of bytes ends) ws erased ≡ stops (number_of f) (place_of f)
unfolding told_program refused
not_passed {bytes} {ends} erased ws {a} N e q = verdict_stops (accepted_of (names_of bytes ends) ws erased) (sym (ap told_program q) ∙ by_names erased ws a N e)

-- ---- the program

module _ {bytes ends erased ws marks : List ℕ} (P : Passed bytes ends erased ws marks) where
  -- a mark for each string
  pub marks_many : length marks ≡ length ends
  marks_many = ap length P.named.names ∙ names_length bytes ends

  -- the program that is accepted stands from the first word to the last
  pub passed_whole : (p : Program) → accepted_of (names_of bytes ends) ws erased ≡ gives p → Whole ws marks (length ends) p
  passed_whole p a =
      let w : Whole ws marks (length marks) p = rw P.named.names (accepted_whole (names_of bytes ends) ws erased p a) in
      subst (λ (n : ℕ). Whole ws marks n p) marks_many w

-- ---- 2, 3 and 4 leave the buffers

-- a number that leaves the buffers as they came, if any
abbrev Leaves : {A : Type 0} → Told A → Type 0
Leaves (stops n p) = zeroing n ≡ false
Leaves (gives a) = Unit {0}

leaves_whole : {A : Type 0} (ws : List ℕ) (g : Got A) → Leaves (whole_of ws g)
unfolding whole_of zeroing
leaves_whole ws (got a m) = go (eqb m (length ws))
  where
    go : (b : Bool) → Leaves (pick b (gives a) (stops 2 m))
    go true = tt
    go false = refl
leaves_whole ws (wrong p) = refl
leaves_whole ws (deep p) = refl

leaves_erased : {A : Type 0} (t : Told A) (b : Bool) → Leaves t → Leaves (after t (λ p. unless b 4 0 (gives p)))
unfolding after unless zeroing
leaves_erased (stops n p) b l = l
leaves_erased (gives a) true l = tt
leaves_erased (gives a) false l = refl

leaves_accepted : (ns ws erased : List ℕ) → Leaves (accepted_of ns ws erased)
unfolding accepted_of program_of
leaves_accepted ns ws erased = leaves_erased (program_of ns ws) (erased_from ns 0 erased) (leaves_whole ws (program_at ws ns (length ns)))

-- a number of the checks leaves the buffers as they came
pub accepted_leaves : (ns ws erased : List ℕ) {n p : ℕ} → accepted_of ns ws erased ≡ stops n p → zeroing n ≡ false
accepted_leaves ns ws erased e = subst (λ (t : Told Program). Leaves t) e (leaves_accepted ns ws erased)
