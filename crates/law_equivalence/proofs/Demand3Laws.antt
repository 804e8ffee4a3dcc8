-- Why demand 3 holds. Each program is linked to its resolved tree, and steps can be undone: so programs with equal resolved trees are linked. No step
-- changes what resolving gives: so linked programs have equal resolved trees, under the first one's tables. And collecting can't tell a program from
-- the one with all parentheses gone and all calls written as elements, nor can that be told from its resolved tree's: so where the resolved trees are
-- equal the tables are. Assumes nothing.
use Rattle.std.specs.Prelude.{ℕ, ◌≤◌, ◌↔◌, ◌≡◌, refl, true, List, length, leb}
use Rattle.std.proofs.Common.{sym, ap, subst, ◌∙◌, arith, leb-true, le-leb}
use Rattle.std.proofs.Math.Bool.{and-eq-true_iff}
use Rattle.std.proofs.Math.Option.{Option, none}
use Rattle.base_words.specs.Told.{gives, after, unless}
use Rattle.base_strings.specs.Table.{names_of}
use Rattle.base_strings.specs.Open.{entry_of}
use Rattle.tree_stmt.specs.Tree.{words_t, depth_t, Right, Program}
use Rattle.tree_views.specs.Strip.{strip}
use Rattle.entry_read.specs.Sized.{sized_strings, sized_tree, sized_program}
use Rattle.entry_read.specs.Program.{program_of}
use Rattle.rows_table.specs.Rows.{Row}
use Rattle.collect_buffers.specs.State.{running}
use Rattle.collect_definition.specs.Collect.{given, Given, analysed}
use Rattle.collect_definition.specs.Blind.{analysed_strip}
use Rattle.resolve_definition.specs.Tables.{Tables, nowhere}
use Rattle.resolve_definition.specs.FromRows.{tables_of}
use Rattle.resolve_definition.specs.Resolve.{resolve_tree, resolve_array_accesses}
use Rattle.resolve_definition.specs.Flags.{res, res_is}
use Rattle.resolve_definition.specs.Keeps.{shorter_tree, right_tree, deep_tree}
use Rattle.law_equivalence.specs.Chain.{then, back, same, keeps}
use Rattle.law_equivalence.specs.Step.{Steps}
use Rattle.law_equivalence.proofs.StepLaws.{undo, step, reach, strip_res}
use Rattle.law_equivalence.specs.Analysis.{Analysis, resolved_under, Accepted, resolution}
use Rattle.law_equivalence.specs.AnalysisLaws.{Known, known, accepts, reads, read_back, unique}

-- ---- on trees, under any rows

resolve : List Row → Program → Program
resolve rows p = resolve_array_accesses (tables_of rows) 0 p

resolve_is : (rows : List Row) (p : Program) → res (tables_of rows) 0 nowhere p ≡ resolve rows p
unfolding resolve resolve_array_accesses
resolve_is rows p = res_is (tables_of rows) 0 nowhere p

-- a list of steps leads from a program to its resolved tree
reaches : (rows : List Row) (p : Program) → Steps rows p (resolve rows p)
reaches rows p = subst (λ (q : Program). Steps rows p q) (resolve_is rows p) (reach (tables_of rows) 0 nowhere p)

-- linked programs have equal resolved trees
steps_equal : (rows : List Row) {p q : Program} → Steps rows p q → resolve rows p ≡ resolve rows q
steps_equal rows {p} {q} s = sym (resolve_is rows p) ∙ keeps (λ (x : Program). res (tables_of rows) 0 nowhere x) (λ x y r. step r) s ∙ resolve_is rows q

-- programs with equal resolved trees are linked
equal_steps : (rows : List Row) (p q : Program) → resolve rows p ≡ resolve rows q → Steps rows p q
equal_steps rows p q e = then (reaches rows p) (then (same e) (back (λ x y r. undo r) (reaches rows q)))

twice : (rows : List Row) (p : Program) → resolve rows (resolve rows p) ≡ resolve rows p
twice rows p = sym (steps_equal rows (reaches rows p))

-- collecting can't tell programs apart whose resolved trees are equal, each under rows of its own
strip_resolve : (rows : List Row) (p : Program) → strip (resolve rows p) ≡ strip p
strip_resolve rows p = ap (λ (q : Program). strip q) (sym (resolve_is rows p)) ∙ strip_res (tables_of rows) 0 nowhere p

blind : (G : Given) (rows rows' : List Row) (p q : Program) → resolve rows p ≡ resolve rows' q → analysed G p ≡ analysed G q
blind G rows rows' p q e =
    let s : strip p ≡ strip q = sym (strip_resolve rows p) ∙ ap (λ (x : Program). strip x) e ∙ strip_resolve rows' q in
    sym (analysed_strip G p) ∙ ap (λ (x : Program). analysed G x) s ∙ analysed_strip G q

-- ---- on accepted programs

-- an accepted program, part by part
pub known_of : (bytes ends erased words : List ℕ) (a : Analysis) → Accepted bytes ends erased words a → Known none none bytes ends erased words a
known_of bytes ends erased words a h = known none none 0 bytes ends erased words a h

-- the resolved words are the resolved tree's, which is right again
resolved_is : {rows notes : Option ℕ} {bytes ends erased words : List ℕ} {a : Analysis} → Known rows notes bytes ends erased words a → a.resolved ≡ words_t (resolve a.rows a.tree)
unfolding resolve
resolved_is k = k.is

resolved_right : {rows notes : Option ℕ} {bytes ends erased words : List ℕ} {a : Analysis} → Known rows notes bytes ends erased words a → Right (names_of bytes ends) (length (names_of bytes ends)) (resolve a.rows a.tree)
unfolding resolve resolve_array_accesses
resolved_right {bytes = bytes} {ends = ends} {words = words} {a = a} k =
    let ns = names_of bytes ends in
    right_tree ns (length ns) (tables_of a.rows) 0 nowhere a.tree (reads bytes ends words a.tree k.read).right

module _ {bytes ends erased words words' : List ℕ} {first second : Analysis} (k : Known none none bytes ends erased words first) (l : Known none none bytes ends erased words' second) where
  -- what collecting gives, where it can't tell the two apart
  from_run : analysed (given none none bytes ends erased) first.tree ≡ analysed (given none none bytes ends erased) second.tree → (first.rows ≡ second.rows) × (first.diagnostics ≡ second.diagnostics)
  from_run e = let q : running first.rows first.diagnostics ≡ running second.rows second.diagnostics = sym k.ran ∙ e ∙ l.ran in (cc, cc)

  equal_trees : first.resolved ≡ second.resolved → resolve first.rows first.tree ≡ resolve second.rows second.tree
  equal_trees e = unique bytes ends _ _ (resolved_right k) (resolved_right l) (sym (resolved_is k) ∙ e ∙ resolved_is l)

  -- equal resolved words: equal tables
  pub same_rows : first.resolved ≡ second.resolved → first.rows ≡ second.rows
  same_rows e = (from_run (blind (given none none bytes ends erased) first.rows second.rows first.tree second.tree (equal_trees e))).0

  -- and equal diagnostics
  pub same_diagnostics : first.resolved ≡ second.resolved → first.diagnostics ≡ second.diagnostics
  same_diagnostics e = (from_run (blind (given none none bytes ends erased) first.rows second.rows first.tree second.tree (equal_trees e))).1

  to_steps : first.resolved ≡ second.resolved → Steps first.rows first.tree second.tree
  to_steps e = equal_steps first.rows first.tree second.tree (equal_trees e ∙ ap (λ (rs : List Row). resolve rs second.tree) (sym (same_rows e)))

  to_equal : Steps first.rows first.tree second.tree → first.resolved ≡ second.resolved
  to_equal s =
      let e : resolve first.rows first.tree ≡ resolve first.rows second.tree = steps_equal first.rows s in
      let r = (from_run (blind (given none none bytes ends erased) first.rows first.rows first.tree second.tree e)).0 in
      resolved_is k ∙ ap (λ (p : Program). words_t p) (e ∙ ap (λ (rs : List Row). resolve rs second.tree) r) ∙ sym (resolved_is l)

  -- the resolved words are equal exactly when steps lead from the one tree to the other, under the first one's tables
  pub exactly_so : (first.resolved ≡ second.resolved) ↔ Steps first.rows first.tree second.tree
  exactly_so = (to_steps, to_equal)

-- ---- resolved words again

-- shorter words are within the sizes too
sized_shorter : (bytes ends words words' erased : List ℕ) → length words' ≤ length words → sized_program bytes ends words erased ≡ true → (sized_tree bytes ends words' ≡ true) × (sized_program bytes ends words' erased ≡ true)
unfolding sized_program sized_tree
sized_shorter bytes ends words words' erased h e =
    let a = (and-eq-true_iff (sized_tree bytes ends words) _).0 e in
    let b = (and-eq-true_iff (sized_strings bytes ends) _).0 a.0 in
    let c : leb (length words') 8192 ≡ true = le-leb (length words') 8192 (omega (arith, leb-true (length words) 8192 b.1)) in
    (rw (b.0, c) refl, rw (b.0, c, a.1) refl)

-- the resolved tree as words: within the sizes, read as that tree, and resolved to itself
record Again (rows : List Row) (bytes ends erased : List ℕ) (r : Program) : Type 0 where
  sized_tree_lem : sized_tree bytes ends (words_t r) ≡ true
  sized : sized_program bytes ends (words_t r) erased ≡ true
  read : program_of (names_of bytes ends) (words_t r) ≡ gives r
  is : resolved_under rows r ≡ words_t r

read_again : {rows notes : Option ℕ} {bytes ends erased words : List ℕ} {a : Analysis} → Known rows notes bytes ends erased words a → Again a.rows bytes ends erased (resolve a.rows a.tree)
unfolding resolve resolve_array_accesses
read_again {bytes = bytes} {ends = ends} {erased = erased} {words = words} {a = a} k =
    let T : Tables = tables_of a.rows in
    let o = reads bytes ends words a.tree k.read in
    let h : length (words_t (resolve_tree T 0 nowhere a.tree)) ≤ length words = rw (← o.are) (shorter_tree T 0 nowhere a.tree) in
    let d : depth_t (resolve_tree T 0 nowhere a.tree) ≤ 100 = omega (arith, deep_tree T 0 nowhere a.tree, o.shallow) in
    let s = sized_shorter bytes ends words (words_t (resolve_tree T 0 nowhere a.tree)) erased h k.sized in
    record { sized_tree_lem = s.0; sized = s.1; read = read_back bytes ends _ (resolved_right k) d; is = ap (λ (p : Program). words_t p) (twice a.rows a.tree) }

-- the resolved words, read and resolved again under the rows, give themselves
pub again : {rows notes : Option ℕ} {bytes ends erased words : List ℕ} {a : Analysis} → Known rows notes bytes ends erased words a → (at : ℕ) → resolution a.rows at bytes ends a.resolved ≡ gives a.resolved
unfolding resolution entry_of unless after
again k at = let g = read_again k in rw (resolved_is k, g.sized_tree_lem, k.strings, g.read) (ap gives g.is)

-- the resolved words are accepted, with the same rows and diagnostics, and resolve to themselves
pub accepted_again : (bytes ends erased words : List ℕ) (a : Analysis) → Accepted bytes ends erased words a → Accepted bytes ends erased a.resolved (record { tree = resolve_array_accesses (tables_of a.rows) 0 a.tree; rows = a.rows; diagnostics = a.diagnostics; resolved = a.resolved })
unfolding resolve
accepted_again bytes ends erased words a h =
    let k = known_of bytes ends erased words a h in
    let g = read_again k in
    accepts none none 0 bytes ends erased a.resolved _
    (record {
      sized = rw (resolved_is k) g.sized;
      strings = k.strings;
      read = rw (resolved_is k) g.read;
      erases = k.erases;
      ran = blind (given none none bytes ends erased) a.rows a.rows (resolve a.rows a.tree) a.tree (twice a.rows a.tree) ∙ k.ran;
      is = resolved_is k ∙ sym g.is;
    })
