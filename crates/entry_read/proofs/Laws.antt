-- What the code's answers mean, case by case. Assumes nothing.
use Prim.Native.Nat.{ℕ, ◌+◌, ◌≤◌, ◌<◌}
use mathlib.Core.Path.{◌≡◌, refl, sym, ap, ◌∙◌}
use mathlib.Core.Bool.{Bool, true, false, ◌&&◌}
use mathlib.Mathlib.Data.Bool.Basic.{and_elim_left, and_elim_right}
use mathlib.Core.List.{List}
use native.Mathlib.Omega.{arith}
use native.Mathlib.Numerals.{add-one}
use lib.ListN.{length, get_or, take, drop, drop_of_length-le}
use lib.Seq.{drop-cons, length-take-le}
use lib.Dec.{leb, eqb}
use borrow.Author.Tests.{le-leb, lt-leb, eq-eqb, ne_eqb, leb-true}
use Rattle.base_words.specs.Word.{pick}
use Rattle.base_words.specs.Sizes.{max_strings}
use Rattle.base_words.specs.Told.{stops, gives, after, unless}
use Rattle.base_strings.proofs.Laws.{and_true, and_false}
use Rattle.base_strings.specs.Table.{Names}
use Rattle.tree_expr.specs.Got.{Got, got, wrong, deep}
use Rattle.tree_expr.specs.Answer.{step_of, refusal_of, Step}
use Rattle.tree_expr.specs.declared.Cursor.{Cursor}
use Rattle.tree_expr.specs.declared.Misread.{Misread}
use Rattle.tree_expr.specs.declared.Misread.TheVariants.{Wrong, Deep}
use Rattle.std.specs.Prelude.{Ok, Err}
use Rattle.base_words.specs.Refusals.{refused}
use Rattle.tree_stmt.specs.Reader.{program_at}
use Rattle.entry_read.specs.Sized.{sized_strings, sized_tree, sized_program}
use Rattle.entry_read.specs.Reading.{node_of, node_of_step}
use Rattle.entry_read.specs.Program.{whole_of, erased_from, program_of, accepted_of, verdict, end_of, step_told}

-- the node that the code's answer tells
pub node_is : {A : Type 0} (ws : List ℕ) (at : ℕ) (g : Got A) {s : Step} → s ≡ step_of g → node_of_step ws at s ≡ node_of ws at g
unfolding node_of_step node_of step_of
node_is ws at (got a m) e = rw e refl
node_is ws at (wrong p) e = rw e refl
node_is ws at (deep p) e = rw e refl

-- ---- sizes

module _ (bytes ends ws : List ℕ) where
  -- within the sizes there are at most 1,024 strings
  pub few_strings : sized_tree bytes ends ws ≡ true → length ends ≤ max_strings
  unfolding sized_tree sized_strings
  few_strings e = leb-true (length ends) 1024 (and_elim_right (leb (length bytes) 16384) _ (and_elim_left (sized_strings bytes ends) _ e))

  -- within the sizes of a program there are at most 1,024 strings
  pub few_strings' : (erased : List ℕ) → sized_program bytes ends ws erased ≡ true → length ends ≤ max_strings
  unfolding sized_program
  few_strings' erased e = few_strings (and_elim_left (sized_tree bytes ends ws) _ e)

-- ---- the marks of the names, as a part of an array

-- there is a mark for each string
pub as_many : {bytes ends marks : List ℕ} → Names bytes ends marks → length ends ≤ max_strings → length ends ≡ length (take (length ends) marks)
as_many {bytes} {ends} {marks} n p = sym (length-take-le (length ends) marks (omega (arith, n.long)))

-- ---- whole programs

module _ (ns ws erased : List ℕ) where
  -- words over: 2
  pub end_over : (at : ℕ) → (at ≡ length ws → ⊥) → stops 2 at ≡ end_of ns ws erased at
  unfolding end_of
  end_over at n = rw (ne_eqb at (length ws) n) refl

  -- none over, and right erased names: it is given
  pub end_fine : (at : ℕ) → at ≡ length ws → erased_from ns 0 erased ≡ true → gives tt ≡ end_of ns ws erased at
  unfolding end_of unless
  end_fine at n e = rw (eq-eqb at (length ws) n, e) refl

  -- none over, and wrong erased names: 4
  pub end_erased : (at : ℕ) → at ≡ length ws → erased_from ns 0 erased ≡ false → stops 4 0 ≡ end_of ns ws erased at
  unfolding end_of unless
  end_erased at n e = rw (eq-eqb at (length ws) n, e) refl

  by_ok : {A : Type 0} (a : A) (b : Bool) → unless {A = Unit {0}} b 4 0 (gives tt) ≡ verdict (unless b 4 0 (gives a))
  unfolding verdict unless
  by_ok a true = refl
  by_ok a false = refl

  by_end : {A : Type 0} (a : A) (m : ℕ) (b : Bool) → pick b (unless (erased_from ns 0 erased) 4 0 (gives tt)) (stops 2 m) ≡ verdict (after (pick b (gives a) (stops 2 m)) (λ p. unless (erased_from ns 0 erased) 4 0 (gives p)))
  unfolding verdict after
  by_end a m true = by_ok a (erased_from ns 0 erased)
  by_end a m false = refl

  by_got : {A : Type 0} (g : Got A) → step_told ns ws erased (step_of g) ≡ verdict (after (whole_of ws g) (λ p. unless (erased_from ns 0 erased) 4 0 (gives p)))
  unfolding step_told step_of whole_of end_of after verdict
  by_got (got a m) = by_end a m (eqb m (length ws))
  by_got (wrong p) = refl
  by_got (deep p) = refl

  -- the answer from the step that reading took
  pub program_told : {s : Step} → s ≡ step_of (program_at ws ns (length ns)) → step_told ns ws erased s ≡ verdict (accepted_of ns ws erased)
  unfolding accepted_of program_of
  program_told e = ap (step_told ns ws erased) e ∙ by_got (program_at ws ns (length ns))

  -- it came to a place: what is asked there
  pub program_ok : {s : Step} {c : Cursor} → s ≡ step_of (program_at ws ns (length ns)) → s ≡ Ok c → end_of ns ws erased c.at ≡ verdict (accepted_of ns ws erased)
  unfolding step_told
  program_ok e q = ap (step_told ns ws erased) (sym q) ∙ program_told e

  -- it did not: the refusal that a `?` makes of what was wrong
  pub program_err : {s : Step} {m : Misread} → s ≡ step_of (program_at ws ns (length ns)) → s ≡ Err m → refused (refusal_of m) ≡ verdict (accepted_of ns ws erased)
  unfolding step_told refused
  program_err {m = Wrong p} e q = ap (step_told ns ws erased) (sym q) ∙ program_told e
  program_err {m = Deep p} e q = ap (step_told ns ws erased) (sym q) ∙ program_told e

-- ---- erased names

module _ (ns es : List ℕ) (low i : ℕ) where
  -- past the last nothing is asked
  pub erased_none : length es ≤ i → erased_from ns low (drop i es) ≡ true
  unfolding erased_from
  erased_none p = rw (drop_of_length-le es p) refl

  -- the next one is not below `low` and a name's, and those after it are right
  pub erased_more : i < length es → erased_from ns low (drop i es) ≡ (leb low (get_or es i 0) && (eqb (get_or ns (get_or es i 0) 0) 1 && erased_from ns (get_or es i 0 + 1) (drop (i + 1) es)))
  unfolding erased_from
  erased_more p = rw (add-one i, drop-cons es i 0 p) refl

  -- one below `low`: not right
  pub erased_low : i < length es → get_or es i 0 < low → erased_from ns low (drop i es) ≡ false
  erased_low p q = erased_more p ∙ and_false _ _ (lt-leb low (get_or es i 0) q)

  -- one that is no name's: not right
  pub erased_not : i < length es → low ≤ get_or es i 0 → (get_or ns (get_or es i 0) 0 ≡ 1 → ⊥) → erased_from ns low (drop i es) ≡ false
  erased_not p q n = erased_more p ∙ and_true _ _ (le-leb low (get_or es i 0) q) ∙ and_false _ _ (ne_eqb (get_or ns (get_or es i 0) 0) 1 n)

  -- a right one: those after it decide
  pub erased_next : i < length es → low ≤ get_or es i 0 → get_or ns (get_or es i 0) 0 ≡ 1 → erased_from ns low (drop i es) ≡ erased_from ns (get_or es i 0 + 1) (drop (i + 1) es)
  erased_next p q n = erased_more p ∙ and_true _ _ (le-leb low (get_or es i 0) q) ∙ and_true _ _ (eq-eqb (get_or ns (get_or es i 0) 0) 1 n)
