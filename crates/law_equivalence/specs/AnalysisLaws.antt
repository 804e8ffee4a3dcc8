-- What it means that a program is accepted, part by part; words and trees determine each other; resolved words are read again, as the resolved
-- tree. Assumes nothing.
use Rattle.std.specs.Prelude.{ℕ, ◌≤◌, ◌≡◌, refl, Bool, true, false, List, ◌++◌, length, drop}
use Rattle.std.proofs.Common.{sym, ap, subst, ◌∙◌, append-nil, arith, eq-eqb}
use Rattle.std.proofs.Math.Option.{Option}
use Rattle.std.proofs.Math.Seq.{drop-length}
use Rattle.base_words.specs.Told.{Told, stops, gives, after, unless}
use Rattle.base_strings.specs.Table.{sound, names_of}
use Rattle.base_strings.specs.Open.{entry_of}
use Rattle.tree_expr.specs.Stands.{Wrote}
use Rattle.tree_stmt.specs.Tree.{words_t, depth_t, Right, Program}
use Rattle.tree_stmt.proofs.Complete.{one_tree, clear, clear_r, program_complete}
use Rattle.entry_read.specs.Sized.{sized_program}
use Rattle.entry_read.specs.Program.{whole_of, erased_from, program_of, accepted_of}
use Rattle.entry_read.specs.Whole.{program_whole, stops_gives}
use Rattle.collect_buffers.specs.State.{State, running, stopped}
use Rattle.collect_definition.specs.Collect.{given, analysed}
use Rattle.law_equivalence.specs.Analysis.{Analysis, resolved_under, result_of, analysis}

-- ---- what gives no number passes every check

unless_gives : {A : Type 0} (n p : ℕ) (b : Bool) (t : Told A) {a : A} → unless b n p t ≡ gives a → (b ≡ true) × (t ≡ gives a)
unfolding unless
unless_gives n p true t e = (refl, e)
unless_gives n p false t e = absurd (stops_gives e)

after_gives : {A B : Type 0} (t : Told A) (k : A → Told B) {b : B} → after t k ≡ gives b → (x : A) × (t ≡ gives x) × (k x ≡ gives b)
unfolding after
after_gives (stops n p) k e = absurd (stops_gives e)
after_gives (gives x) k e = (x, refl, e)

-- what is read is these words' tree
pub record Reads (bytes ends words : List ℕ) (p : Program) : Type 0 where
  pub are : words_t p ≡ words
  pub right : Right (names_of bytes ends) (length (names_of bytes ends)) p
  pub shallow : depth_t p ≤ 100

all_there : (xs : List ℕ) → Wrote xs 0 xs (length xs)
all_there xs = record { span = omega arith; inside = omega arith; is = sym (append-nil xs) ∙ ap (λ (l : List ℕ). xs ++ l) (sym (drop-length xs)) }

-- a program that was read is such a tree
pub reads : (bytes ends words : List ℕ) (p : Program) → program_of (names_of bytes ends) words ≡ gives p → Reads bytes ends words p
reads bytes ends words p e =
    let f = program_whole (names_of bytes ends) words p e in
    let w : words ≡ words_t p ++ drop (length words) words = f.stands.wrote.is in
    record { are = sym (w ∙ ap (λ (l : List ℕ). words_t p ++ l) (drop-length words) ∙ append-nil (words_t p)); right = f.stands.valid; shallow = f.shallow }

-- and that tree is read from them
pub read_back : (bytes ends : List ℕ) (p : Program) → Right (names_of bytes ends) (length (names_of bytes ends)) p → depth_t p ≤ 100 → program_of (names_of bytes ends) (words_t p) ≡ gives p
unfolding program_of whole_of
read_back bytes ends p r d = let ns = names_of bytes ends in rw (program_complete ns (length ns) p d r, eq-eqb (length (words_t p)) (length (words_t p)) refl) refl

-- equal words are one right tree's, however deep
pub unique : (bytes ends : List ℕ) (p q : Program) → Right (names_of bytes ends) (length (names_of bytes ends)) p → Right (names_of bytes ends) (length (names_of bytes ends)) q → words_t p ≡ words_t q → p ≡ q
unfolding clear clear_r
unique bytes ends p q r s e =
    let ns = names_of bytes ends in
    (one_tree (words_t p) ns (length ns) p q 0 (length (words_t p)) (length (words_t p)) refl r s (all_there (words_t p))
    (subst (λ (xs : List ℕ). Wrote (words_t p) 0 xs (length (words_t p))) e (all_there (words_t p)))).0

-- ---- what is known of an accepted program

-- it passed each check, and each part is what its pass gave
pub record Known (rows notes : Option ℕ) (bytes ends erased words : List ℕ) (a : Analysis) : Type 0 where
  pub sized : sized_program bytes ends words erased ≡ true
  pub strings : sound bytes ends ≡ true
  pub read : program_of (names_of bytes ends) words ≡ gives a.tree
  pub erases : erased_from (names_of bytes ends) 0 erased ≡ true
  pub ran : analysed (given rows notes bytes ends erased) a.tree ≡ running a.rows a.diagnostics
  pub is : a.resolved ≡ resolved_under a.rows a.tree

-- what came out of the run, and of resolving under its rows
pub record Ran (p : Program) (s : State) (a : Analysis) : Type 0 where
  pub tree : a.tree ≡ p
  pub ran : s ≡ running a.rows a.diagnostics
  pub is : a.resolved ≡ resolved_under a.rows p

result_gives : (p : Program) (s : State) (a : Analysis) → result_of p s ≡ gives a → Ran p s a
unfolding result_of
result_gives p (running rows notes) a e =
    let f : Told Analysis → Analysis = λ t. elim t [ stops n m ↦ a | gives b ↦ b ] in
    let q : record { tree = p; rows = rows; diagnostics = notes; resolved = resolved_under rows p } ≡ a = ap f e in
    subst (λ (b : Analysis). Ran p (running rows notes) b) q (record { tree = refl; ran = refl; is = refl })
result_gives p (stopped n) a e = absurd (stops_gives e)

-- each part of it, from its being given no number
pub known : (rows notes : Option ℕ) (at : ℕ) (bytes ends erased words : List ℕ) (a : Analysis) → analysis rows notes at bytes ends erased words ≡ gives a → Known rows notes bytes ends erased words a
unfolding analysis entry_of accepted_of
known rows notes at bytes ends erased words a e =
    let ns = names_of bytes ends in
    let s = unless_gives 5 0 (sized_program bytes ends words erased) _ e in
    let t = unless_gives 1 at (sound bytes ends) _ s.1 in
    let u = after_gives (accepted_of ns words erased) _ t.1 in
    let p : Program = u.0 in
    let v = after_gives (program_of ns words) _ u.1 in
    let w = unless_gives 4 0 (erased_from ns 0 erased) _ v.2 in
    let r = result_gives p (analysed (given rows notes bytes ends erased) p) a u.2 in
    let q : v.0 ≡ a.tree = (let h = w.1 in cc) in
    record { sized = s.0; strings = t.0; read = v.1 ∙ ap gives q; erases = w.0; ran = ap (analysed (given rows notes bytes ends erased)) r.tree ∙ r.ran; is = r.is ∙ ap (resolved_under a.rows) (sym r.tree) }

-- and nothing else: whatever place number 1 would have had
pub accepts : (rows notes : Option ℕ) (at : ℕ) (bytes ends erased words : List ℕ) (a : Analysis) → Known rows notes bytes ends erased words a → analysis rows notes at bytes ends erased words ≡ gives a
unfolding analysis entry_of accepted_of after unless result_of
accepts rows notes at bytes ends erased words a k = rw (k.sized, k.strings, k.read, k.erases, k.ran, ← k.is) refl
