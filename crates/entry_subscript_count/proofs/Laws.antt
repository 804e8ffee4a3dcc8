-- What the entry's answers tell, by the way that they took. No line here knows the code. Assumes nothing.
use Prim.Native.Nat.{ℕ}
use mathlib.Core.Path.{◌≡◌, refl, sym, ap, ◌∙◌}
use mathlib.Core.Bool.{Bool, true, false}
use mathlib.Core.List.{List}
use mathlib.Core.Option.{Option}
use lib.Dec.{eqb}
use lib.ListN.{length}
use borrow.Author.Tests.{eq-eqb, ne_eqb}
use Rattle.base_words.specs.Word.{pick}
use Rattle.base_words.specs.Told.{Told, stops, gives, after, unless}
use Rattle.base_words.specs.Refusals.{refused}
use Rattle.base_words.specs.declared.Refusal.TheVariants.{Word, Lookup}
use Rattle.tree_expr.specs.Expr.{Expr}
use Rattle.tree_expr.specs.Got.{Got}
use Rattle.tree_expr.specs.Answer.{step_of, refusal_of, Step}
use Rattle.tree_expr.specs.declared.Cursor.{Cursor}
use Rattle.tree_stmt.specs.Sorts.{body}
use Rattle.tree_stmt.specs.Tree.{one, Tree, Program}
use Rattle.tree_stmt.specs.Stands.{Stands, SomeTree}
use Rattle.tree_stmt.specs.Reader.{program_at}
use Rattle.tree_stmt.proofs.Sound.{program_sound}
use Rattle.entry_read.specs.Answered.{answer_read, answer_wrong, answer_deep}
use Rattle.entry_read.specs.Program.{program_of, whole_of}
use Rattle.rows_lent.specs.Rules.{is_marked}
use Rattle.collect_subscript_count.specs.Subscripts.{in_expr, subscript_count}
use Rattle.collect_subscript_count.specs.Code.{use_of}
use Rattle.entry_subscript_count.specs.Count.{count_of, told, WasRead}
use Rattle.std.specs.Prelude.{Option as RustOption, Ok, Err, Some, None}
use Rattle.tree_expr.specs.declared.Misread.{Misread}
use Rattle.tree_expr.specs.declared.Misread.TheVariants.{Wrong, Deep}

-- ---- what the walk found

-- the answer of the walk, told
pub found_told : (u : RustOption ℕ) → told (Ok u) ≡ gives (use_of u)
unfolding told use_of
found_told (Some n) = refl
found_told None = refl

-- ---- what stands there

module _ {ns ws : List ℕ} {at : ℕ} (R : WasRead ns ws at) where
  stands : Stands ws ns (length ns) 0 R.body at
  stands = let f = program_sound ws ns (length ns) R.body at R.reads in record { wrote = f.wrote; valid = f.valid }

  -- a list of statements stands at the first word
  pub body_there : SomeTree (one body) ws 0
  body_there = record { names = ns; strings = length ns; tree = R.body; end = at; stands = stands }

  -- what is told after reading
  rest : ℕ → Program → Told (Option ℕ)
  rest name p = unless (is_marked ns name) 11 0 (gives (subscript_count (λ name (e : Expr). in_expr name e) name p))

  read_is : (name : ℕ) → count_of ns ws name ≡ after (pick (eqb at (length ws)) (gives R.body) (stops 2 at)) (rest name)
  unfolding count_of program_of whole_of rest
  read_is name = ap (λ (g : Got Program). after (whole_of ws g) (rest name)) R.reads

  -- words over: 2 at the first of them
  pub over_is : (name : ℕ) → (at ≡ length ws → ⊥) → refused (Word at) ≡ count_of ns ws name
  unfolding refused after
  over_is name z = sym (read_is name ∙ ap (λ (b : Bool). after (pick b (gives R.body) (stops 2 at)) (rest name)) (ne_eqb at (length ws) z))

  whole_is : (name : ℕ) → at ≡ length ws → count_of ns ws name ≡ rest name R.body
  unfolding after
  whole_is name q = read_is name ∙ ap (λ (b : Bool). after (pick b (gives R.body) (stops 2 at)) (rest name)) (eq-eqb at (length ws) q)

  -- a number that is no name's: 11
  pub no_name_is : (name : ℕ) → at ≡ length ws → is_marked ns name ≡ false → refused Lookup ≡ count_of ns ws name
  unfolding refused rest unless
  no_name_is name q z = sym (whole_is name q ∙ ap (λ (b : Bool). unless b 11 0 (gives (subscript_count (λ name (e : Expr). in_expr name e) name R.body))) z)

  -- else what the walk found
  pub counted_is : (name : ℕ) {t : Told (Option ℕ)} {o : Option ℕ} → at ≡ length ws → is_marked ns name ≡ true → ((ks : List ℕ) (k : ℕ) (v : Tree Expr (one body)) (end : ℕ) → Stands ws ks k 0 v end → o ≡ subscript_count (λ name (e : Expr). in_expr name e) name v) → t ≡ gives o → t ≡ count_of ns ws name
  unfolding rest unless
  counted_is name q z f e = e ∙ ap gives (f ns (length ns) R.body at stands) ∙ sym (whole_is name q ∙ ap (λ (b : Bool). unless b 11 0 (gives (subscript_count (λ name (e : Expr). in_expr name e) name R.body))) z)

-- ---- what reading gave

module _ (ns ws : List ℕ) (name : ℕ) where
  -- it was read, up to a place
  pub was_read : {s : Step} {c : Cursor} → s ≡ step_of (program_at ws ns (length ns)) → s ≡ Ok c → WasRead ns ws c.at
  was_read e q = let r = answer_read (program_at ws ns (length ns)) e q in record { body = r.tree; reads = r.is }

  -- it was not: the refusal that a `?` makes of what was wrong
  pub misread_is : {s : Step} {m : Misread} → s ≡ step_of (program_at ws ns (length ns)) → s ≡ Err m → refused (refusal_of m) ≡ count_of ns ws name
  unfolding count_of program_of whole_of refused after
  misread_is {m = Wrong p} e q = rw (answer_wrong (program_at ws ns (length ns)) e q) refl
  misread_is {m = Deep p} e q = rw (answer_deep (program_at ws ns (length ns)) e q) refl
