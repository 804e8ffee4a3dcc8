-- The first token of what a scan has still to come, and what is left after it. Assumes nothing.
-- `front` says which token it is, `front_at` the same of the words at a place, and `at_word`, `at_raw`, `at_raws`, `at_paren`, `at_call`, `at_stmt`, `at_end` by the kind of the word there.
-- In each, `stmts` tells what happens to the statements that are still to come, and `writes` what to the words written with each expression and statement replaced.
use Prim.Native.Nat.{ℕ, zero, suc, ◌+◌, ◌≤◌, ◌<◌}
use native.Mathlib.Omega.{arith}
use mathlib.Core.Path.{◌≡◌, refl, sym, ap, subst, ◌∙◌}
use mathlib.Core.Bool.{Bool, true, false, ◌&&◌, ◌||◌}
use mathlib.Mathlib.Data.Bool.Basic.{and_elim_left, and_elim_right}
use mathlib.Core.List.{List, [], ◌∷◌, ◌++◌, append-nil, append_assoc}
use lib.Dec.{lit<, ltb, leb, eqb}
use borrow.Author.Tests.{ltb-true, leb-true, eqb-true}
use lib.ListN.{length, get_or, take, drop}
use Rattle.base_words.specs.Word.{word_of, kind_of}
use Rattle.tree_expr.specs.Expr.{Literal, Integer, Long, Single, Float, Text, Expr, Lit, Var, Elem, Unary, Binary, Call, Field, Paren, Exprs, none, more, words_l, many as many_e, words, words_all, ValidL, Valid, Valids}
use Rattle.tree_expr.specs.Stands as E
use Rattle.tree_expr.specs.Stands.{Wrote}
use Rattle.tree_expr.proofs.Parts.{wrote_first, wrote_left, wrote_right, kind_is}
use Rattle.tree_stmt.specs.Sorts.{Sorts, nil, body, Kind, sorts, kinds, number_of}
use Rattle.tree_stmt.specs.KindLaws.{kind_number, number_small}
use Rattle.tree_stmt.specs.Tree.{Shape, one, row, Tree, word, value, Stmt, list, part, this, that, done, cons, none as nothing, more as add, count, kind_l, words_t, depth_t, strings, Right}
use Rattle.tree_stmt.specs.Stands.{Stands}
use Rattle.tree_stmt.specs.Codes.{parts, all_rows, row_of}
use Rattle.tree_stmt.proofs.Steps.{row_kind}
use Rattle.tree_walk.specs.Pieces.{Piece, expr_piece, stmt_piece, written}
use Rattle.tree_walk.specs.Items.{ordinary, quiet, quiet_r, quiet_i, Item, word_item, lit_item, expr_item, exprs_item, tree_item, words_i, words_is, RightI, RightIs, StandsAll, outer, outer_i, outer_is, each_e, written_i, written_is, Parted}

-- ---- every statement's sorts are quiet

all_quiet : List Sorts → Bool
all_quiet [] = true
all_quiet (ss ∷ l) = quiet_r ss && all_quiet l

quiet_at : (l : List Sorts) (r : ℕ) → all_quiet l ≡ true → quiet_r (get_or l r nil) ≡ true
unfolding all_quiet quiet_r
quiet_at [] r e = refl
quiet_at (ss ∷ l) zero e = and_elim_left (quiet_r ss) _ e
quiet_at (ss ∷ l) (suc r) e = quiet_at l r (and_elim_right (quiet_r ss) _ e)

-- each row of the table
pub quiet_row : (r : ℕ) → quiet_r (row_of r) ≡ true
unfolding row_of all_quiet quiet quiet_r ordinary all_rows parts sorts kinds
quiet_row r = quiet_at all_rows r refl

-- each kind's row
pub quiet_kind : (k : Kind) → quiet_r (sorts k) ≡ true
quiet_kind k = ap quiet_r (sym (row_kind (number_of k) (number_small k) ∙ ap sorts (kind_number k))) ∙ quiet_row (number_of k + 39)

-- a list of statements
pub quiet_body : quiet_i (one body) ≡ true
unfolding quiet_i quiet quiet_r
quiet_body = refl

-- ---- ordinary kinds

or_cases : {A : Type 0} (a b : Bool) → (a || b) ≡ true → (a ≡ true → A) → (b ≡ true → A) → A
or_cases true b e f g = f refl
or_cases false b e f g = g e

-- the word of an ordinary kind
word_ordinary : (k x : ℕ) → x < 16777216 → ordinary k ≡ true → ordinary (kind_of (word_of k x)) ≡ true
word_ordinary k x h e = ap ordinary (kind_is k x h) ∙ e

one_ordinary : ordinary 1 ≡ true
unfolding ordinary
one_ordinary = refl

-- ---- the first token

-- The items begin with the words `head`, and then stand those left; `rest` is what stands after the whole node, in which are the statements `found`, and which is written as `whole`.
pub record Next (ns : List ℕ) (n d : ℕ) (xs : List Item) (head : List ℕ) (left rest : List Item) (found : List (Piece Expr)) (whole : (Piece Expr → List ℕ) → List ℕ) : Type 0 where
  pub is : words_is xs ≡ head ++ words_is left
  pub valid : RightIs ns n d left
  pub stmts : outer_is xs ≡ found ++ outer_is rest
  pub writes : (g : Piece Expr → List ℕ) → Parted g → written_is g xs ≡ whole g ++ written_is g rest

-- the parts of a call after its head
abbrev pub call_parts : ℕ → Exprs → List Item → List Item
call_parts f es rest = word_item (word_of 2 f) ∷ word_item (word_of 1 (many_e es)) ∷ exprs_item es ∷ rest

-- which token comes first, if any is left
pub data Front (ns : List ℕ) (n d : ℕ) (xs : List Item) : Type 0 where
  is_over : words_is xs ≡ [] → outer_is xs ≡ [] → ((g : Piece Expr → List ℕ) → written_is g xs ≡ []) → Front ns n d xs
  is_word : (w : ℕ) (rest : List Item) → ordinary (kind_of w) ≡ true → Next ns n d xs (w ∷ []) rest rest [] (λ g. w ∷ []) → Front ns n d xs
  is_raw : (k a : ℕ) (rest : List Item) → 24 ≤ k → k ≤ 25 → Next ns n d xs (word_of k 0 ∷ a ∷ []) rest rest [] (λ g. word_of k 0 ∷ a ∷ []) → Front ns n d xs
  is_raws : (k a b : ℕ) (rest : List Item) → 26 ≤ k → k ≤ 27 → Next ns n d xs (word_of k 0 ∷ a ∷ b ∷ []) rest rest [] (λ g. word_of k 0 ∷ a ∷ b ∷ []) → Front ns n d xs
  is_paren : (e : Expr) (rest : List Item) → Next ns n d xs (word_of 23 0 ∷ []) (expr_item e ∷ rest) rest [] (λ g. g (expr_piece (Paren e))) → Front ns n d xs
  is_call : (f : ℕ) (es : Exprs) (rest : List Item) → Valid (strings ns n) (Call f es) → RightIs ns n d rest → Next ns n d xs (word_of 21 0 ∷ []) (call_parts f es rest) rest [] (λ g. g (expr_piece (Call f es))) → Front ns n d xs
  is_stmt : (k : Kind) (line : ℕ) (r : Tree Expr (row (sorts k))) (rest : List Item) → Right ns n (Stmt k line r) → depth_t (Stmt k line r) ≤ d → RightIs ns n d rest
      → Next ns n d xs (word_of (64 + number_of k) line ∷ []) (tree_item r ∷ rest) rest (stmt_piece k line r ∷ []) (λ g. g (stmt_piece k line r)) → Front ns n d xs

-- items that are written alike
record Alike (xs ys : List Item) : Type 0 where
  is : words_is xs ≡ words_is ys
  stmts : outer_is xs ≡ outer_is ys
  writes : (g : Piece Expr → List ℕ) → written_is g xs ≡ written_is g ys

next_as : {ns : List ℕ} {n d : ℕ} {xs ys : List Item} {head : List ℕ} {left rest : List Item} {found : List (Piece Expr)} {whole : (Piece Expr → List ℕ) → List ℕ} → Alike xs ys → Next ns n d ys head left rest found whole → Next ns n d xs head left rest found whole
next_as a t = record { is = a.is ∙ t.is; valid = t.valid; stmts = a.stmts ∙ t.stmts; writes = λ g p. a.writes g ∙ t.writes g p }

front_as : {ns : List ℕ} {n d : ℕ} {xs ys : List Item} → Alike xs ys → Front ns n d ys → Front ns n d xs
front_as a (is_over p q r) = is_over (a.is ∙ p) (a.stmts ∙ q) (λ g. a.writes g ∙ r g)
front_as a (is_word w rest o t) = is_word w rest o (next_as a t)
front_as a (is_raw k x rest h l t) = is_raw k x rest h l (next_as a t)
front_as a (is_raws k x y rest h l t) = is_raws k x y rest h l (next_as a t)
front_as a (is_paren e rest t) = is_paren e rest (next_as a t)
front_as a (is_call f es rest v r t) = is_call f es rest v r (next_as a t)
front_as a (is_stmt k line r rest v s u t) = is_stmt k line r rest v s u (next_as a t)

module _ (ns : List ℕ) (n d : ℕ) where
  -- ---- a literal, an expression, expressions

  front_literal : (l : Literal) (rest : List Item) → ValidL n l → RightIs ns n d rest → Front ns n d (lit_item l ∷ rest)
  unfolding words_i words_is words_l RightI RightIs outer_i outer_is written_i written_is ValidL ordinary
  front_literal (Integer a) rest v r = is_raw 24 a rest (omega arith) (omega arith) (record { is = refl; valid = r; stmts = refl; writes = λ g p. refl })
  front_literal (Long a) rest v r = is_raw 25 a rest (omega arith) (omega arith) (record { is = refl; valid = r; stmts = refl; writes = λ g p. refl })
  front_literal (Single a b) rest v r = is_raws 26 a b rest (omega arith) (omega arith) (record { is = refl; valid = r; stmts = refl; writes = λ g p. refl })
  front_literal (Float a b) rest v r = is_raws 27 a b rest (omega arith) (omega arith) (record { is = refl; valid = r; stmts = refl; writes = λ g p. refl })
  front_literal (Text s) rest v r = is_word (word_of 28 0) (word_item (word_of 2 s) ∷ rest) (word_ordinary 28 0 (lit< tt) refl) (record { is = refl; valid = (word_ordinary 2 s v.fits refl, r); stmts = refl; writes = λ g p. refl })

  front_expr : (e : Expr) (rest : List Item) → Valid (strings ns n) e → RightIs ns n d rest → Front ns n d (expr_item e ∷ rest)
  unfolding words_i words_is words RightI RightIs outer_i outer_is written_i written_is Valid ordinary
  front_expr (Lit l) rest v r = is_word (word_of 16 0) (lit_item l ∷ rest) (word_ordinary 16 0 (lit< tt) refl) (record { is = refl; valid = (v, r); stmts = refl; writes = λ g p. ap (λ (l : List ℕ). l ++ written_is g rest) (p.of_literal l) })
  front_expr (Var x) rest v r = is_word (word_of 17 0) (word_item (word_of 2 x) ∷ rest) (word_ordinary 17 0 (lit< tt) refl) (record { is = refl; valid = (word_ordinary 2 x v.fits refl, r); stmts = refl; writes = λ g p. ap (λ (l : List ℕ). l ++ written_is g rest) (p.of_variable x) })
  front_expr (Elem x es) rest v r = is_word (word_of 18 0) (call_parts x es rest) (word_ordinary 18 0 (lit< tt) refl) (record { is = refl; valid = (word_ordinary 2 x v.0.fits refl, (word_ordinary 1 (many_e es) v.1 refl, (v.2, r))); stmts = refl; writes = λ g p. ap (λ (l : List ℕ). l ++ written_is g rest) (p.of_element x es) })
  front_expr (Unary o e) rest v r = is_word (word_of 19 0) (word_item (word_of 9 o) ∷ expr_item e ∷ rest) (word_ordinary 19 0 (lit< tt) refl) (record { is = refl; valid = (word_ordinary 9 o v.0.fits refl, (v.1, r)); stmts = refl; writes = λ g p. ap (λ (l : List ℕ). l ++ written_is g rest) (p.of_unary o e) })
  front_expr (Binary o e f) rest v r = is_word (word_of 20 0) (word_item (word_of 9 o) ∷ expr_item e ∷ expr_item f ∷ rest) (word_ordinary 20 0 (lit< tt) refl) (record {
    is = ap (λ (l : List ℕ). word_of 20 0 ∷ word_of 9 o ∷ l) (append_assoc (words e) (words f) (words_is rest));
    valid = (word_ordinary 9 o v.0.fits refl, (v.1, (v.2, r)));
    stmts = refl;
    writes = λ g p. ap (λ (l : List ℕ). l ++ written_is g rest) (p.of_binary o e f) ∙ ap (λ (l : List ℕ). word_of 20 0 ∷ word_of 9 o ∷ l) (append_assoc (g (expr_piece e)) (g (expr_piece f)) (written_is g rest));
  })
  front_expr (Call f es) rest v r = is_call f es rest v r (record { is = refl; valid = (word_ordinary 2 f v.0.fits refl, (word_ordinary 1 (many_e es) v.1 refl, (v.2, r))); stmts = refl; writes = λ g p. refl })
  front_expr (Field e x) rest v r = is_word (word_of 22 0) (expr_item e ∷ word_item (word_of 2 x) ∷ rest) (word_ordinary 22 0 (lit< tt) refl) (record {
    is = ap (λ (l : List ℕ). word_of 22 0 ∷ l) (append_assoc (words e) (word_of 2 x ∷ []) (words_is rest));
    valid = (v.0, (word_ordinary 2 x v.1.fits refl, r));
    stmts = refl;
    writes = λ g p. ap (λ (l : List ℕ). l ++ written_is g rest) (p.of_field e x) ∙ ap (λ (l : List ℕ). word_of 22 0 ∷ l) (append_assoc (g (expr_piece e)) (word_of 2 x ∷ []) (written_is g rest));
  })
  front_expr (Paren e) rest v r = is_paren e rest (record { is = refl; valid = (v, r); stmts = refl; writes = λ g p. refl })

  front_exprs : (es : Exprs) (rest : List Item) → Valids (strings ns n) es → RightIs ns n d rest → Front ns n d rest → Front ns n d (exprs_item es ∷ rest)
  unfolding words_i words_is words_all RightI RightIs outer_i outer_is written_i written_is each_e Valids
  front_exprs none rest v r k = front_as (record { is = refl; stmts = refl; writes = λ g. refl }) k
  front_exprs (more e es) rest v r k = front_as (record { is = append_assoc (words e) (words_all es) (words_is rest); stmts = refl; writes = λ g. append_assoc (g (expr_piece e)) (each_e g es) (written_is g rest) }) (front_expr e (exprs_item es ∷ rest) v.0 (v.1, r))

  -- ---- a tree

  front_tree : {i : Shape} (v : Tree Expr i) (rest : List Item) → quiet_i i ≡ true → Right ns n v → depth_t v ≤ d → RightIs ns n d rest → Front ns n d rest → Front ns n d (tree_item v ∷ rest)
  unfolding words_i words_is words_t RightI RightIs outer outer_i outer_is written written_i written_is quiet_i quiet quiet_r depth_t Right
  front_tree (word {l} x) rest q v s r k = is_word (word_of (kind_l l) x) rest (word_ordinary (kind_l l) x v.1 q) (record { is = refl; valid = r; stmts = refl; writes = λ g p. refl })
  front_tree (value e) rest q v s r k = front_as (record { is = refl; stmts = refl; writes = λ g. refl }) (front_expr e rest v r)
  front_tree (Stmt j line t) rest q v s r k = is_stmt j line t rest v s r (record { is = refl; valid = ((quiet_kind j, v.1, omega arith), r); stmts = refl; writes = λ g p. refl })
  front_tree (list rs) rest q v s r k = is_word (word_of 1 (count rs)) (tree_item rs ∷ rest) (word_ordinary 1 (count rs) v.0 one_ordinary) (record { is = refl; valid = ((q, v.1, s), r); stmts = refl; writes = λ g p. refl })
  front_tree (part t) rest q v s r k = front_as (record { is = refl; stmts = refl; writes = λ g. refl }) (front_tree t rest q v s r k)
  front_tree (this {k = j} {ss} t) rest q v s r k = is_word (word_of j 0) (tree_item t ∷ rest) (word_ordinary j 0 (lit< tt) (and_elim_left (ordinary j) _ q)) (record { is = refl; valid = ((and_elim_left (quiet_r ss) _ (and_elim_right (ordinary j) _ q), v, s), r); stmts = refl; writes = λ g p. refl })
  front_tree (that {k = j} {ss} t) rest q v s r k = front_as (record { is = refl; stmts = refl; writes = λ g. refl }) (front_tree t rest (and_elim_right (quiet_r ss) _ (and_elim_right (ordinary j) _ q)) v s r k)
  front_tree done rest q v s r k = front_as (record { is = refl; stmts = refl; writes = λ g. refl }) k
  front_tree (cons {s = so} {ss} t u) rest q v s r k =
      let h : quiet_r ss ≡ true = and_elim_right (quiet so) _ q in
      let l : depth_t u ≤ d = omega arith in
      front_as (record { is = append_assoc (words_t t) (words_t u) (words_is rest); stmts = append_assoc (outer t) (outer u) (outer_is rest); writes = λ g. append_assoc (written g t) (written g u) (written_is g rest) })
      (front_tree t (tree_item u ∷ rest) (and_elim_left (quiet so) _ q) v.0 (omega arith) ((h, v.1, l), r) (front_tree u rest h v.1 l r k))
  front_tree nothing rest q v s r k = front_as (record { is = refl; stmts = refl; writes = λ g. refl }) k
  front_tree (add t u) rest q v s r k =
      let l : depth_t u ≤ d = omega arith in
      front_as (record { is = append_assoc (words_t t) (words_t u) (words_is rest); stmts = append_assoc (outer t) (outer u) (outer_is rest); writes = λ g. append_assoc (written g t) (written g u) (written_is g rest) })
      (front_tree t (tree_item u ∷ rest) q v.0 (omega arith) ((q, v.1, l), r) (front_tree u rest q v.1 l r k))

  -- ---- items

  front_item : (x : Item) (rest : List Item) → RightI ns n d x → RightIs ns n d rest → Front ns n d rest → Front ns n d (x ∷ rest)
  unfolding words_i words_is RightI outer_i outer_is written_i written_is
  front_item (word_item w) rest v r k = is_word w rest v (record { is = refl; valid = r; stmts = refl; writes = λ g p. refl })
  front_item (lit_item l) rest v r k = front_literal l rest v r
  front_item (expr_item e) rest v r k = front_expr e rest v r
  front_item (exprs_item es) rest v r k = front_exprs es rest v r k
  front_item (tree_item t) rest v r k = front_tree t rest v.0 v.1 v.2 r k

  -- right items have a first token, or none is left
  pub front : (xs : List Item) → RightIs ns n d xs → Front ns n d xs
  unfolding words_is RightIs outer_is written_is
  front [] v = is_over refl refl (λ g. refl)
  front (x ∷ xs) v = front_item x xs v.0 v.1 (front xs v.1)

-- ---- the first token of items that stand at a place

-- c words, in which no statement stands, and the items after them
pub record WordsAt (ws ns : List ℕ) (n d at : ℕ) (xs : List Item) (end c : ℕ) : Type 0 where
  pub rest : List Item
  pub there : StandsAll ws ns n d (at + c) rest end
  pub stmts : outer_is xs ≡ outer_is rest
  pub writes : (g : Piece Expr → List ℕ) → Parted g → written_is g xs ≡ take c (drop at ws) ++ written_is g rest

-- parentheses, and what stands after them
pub record ParenAt (ws ns : List ℕ) (n d at : ℕ) (xs : List Item) (end : ℕ) : Type 0 where
  pub inner : Expr
  pub rest : List Item
  pub there : StandsAll ws ns n d (at + 1) (expr_item inner ∷ rest) end
  pub stmts : outer_is xs ≡ outer_is rest
  pub writes : (g : Piece Expr → List ℕ) → Parted g → written_is g xs ≡ g (expr_piece (Paren inner)) ++ written_is g rest

-- `there` for a scan that goes into the call, `whole` and `after` for one that takes it at once
pub record CallAt (ws ns : List ℕ) (n d at : ℕ) (xs : List Item) (end : ℕ) : Type 0 where
  pub name : ℕ
  pub args : Exprs
  pub rest : List Item
  pub mid : ℕ
  pub there : StandsAll ws ns n d (at + 1) (call_parts name args rest) end
  pub whole : E.Stands ws (strings ns n) at (Call name args) mid
  pub after : StandsAll ws ns n d mid rest end
  pub stmts : outer_is xs ≡ outer_is rest
  pub writes : (g : Piece Expr → List ℕ) → Parted g → written_is g xs ≡ g (expr_piece (Call name args)) ++ written_is g rest

-- a statement: `there` for a scan that goes into it, `whole` and `after` for one that takes it at once
pub record StmtAt (ws ns : List ℕ) (n d at : ℕ) (xs : List Item) (end : ℕ) : Type 0 where
  pub kind : Kind
  pub line : ℕ
  pub fields : Tree Expr (row (sorts kind))
  pub rest : List Item
  pub mid : ℕ
  pub there : StandsAll ws ns n d (at + 1) (tree_item fields ∷ rest) end
  pub whole : Stands ws ns n at (Stmt kind line fields) mid
  pub shallow : depth_t (Stmt kind line fields) ≤ d
  pub after : StandsAll ws ns n d mid rest end
  pub stmts : outer_is xs ≡ stmt_piece kind line fields ∷ outer_is rest
  pub writes : (g : Piece Expr → List ℕ) → Parted g → written_is g xs ≡ g (stmt_piece kind line fields) ++ written_is g rest

-- which of these it is, by the kind of the word there
pub data FrontAt (ws ns : List ℕ) (n d at : ℕ) (xs : List Item) (end : ℕ) : Type 0 where
  over_at : at ≡ end → outer_is xs ≡ [] → ((g : Piece Expr → List ℕ) → written_is g xs ≡ []) → FrontAt ws ns n d at xs end
  word_at : ordinary (kind_of (get_or ws at 0)) ≡ true → WordsAt ws ns n d at xs end 1 → FrontAt ws ns n d at xs end
  raw_at : 24 ≤ kind_of (get_or ws at 0) → kind_of (get_or ws at 0) ≤ 25 → WordsAt ws ns n d at xs end 2 → FrontAt ws ns n d at xs end
  raws_at : 26 ≤ kind_of (get_or ws at 0) → kind_of (get_or ws at 0) ≤ 27 → WordsAt ws ns n d at xs end 3 → FrontAt ws ns n d at xs end
  paren_at : kind_of (get_or ws at 0) ≡ 23 → ParenAt ws ns n d at xs end → FrontAt ws ns n d at xs end
  call_at : kind_of (get_or ws at 0) ≡ 21 → CallAt ws ns n d at xs end → FrontAt ws ns n d at xs end
  stmt_at : 64 ≤ kind_of (get_or ws at 0) → kind_of (get_or ws at 0) < 118 → StmtAt ws ns n d at xs end → FrontAt ws ns n d at xs end

module _ {ws ns : List ℕ} {n d at : ℕ} {xs : List Item} {end : ℕ} (S : StandsAll ws ns n d at xs end) where
  -- their words begin with those of the head
  headed : (head left : List ℕ) → words_is xs ≡ head ++ left → Wrote ws at (head ++ left) end
  headed head left q = subst (λ (l : List ℕ). Wrote ws at l end) q S.wrote

  -- so have items that stand at a place
  pub front_at : FrontAt ws ns n d at xs end
  unfolding words_i words_is words words_t Right
  front_at = go (front ns n d xs S.valid)
    where
      go : Front ns n d xs → FrontAt ws ns n d at xs end
      go (is_over p q r) = over_at (omega (arith, S.wrote.span, ap length p)) q r
      go (is_word w rest o t) =
          let h = headed (w ∷ []) (words_is rest) t.is in
          let f = wrote_first h in
          word_at (ap (λ (x : ℕ). ordinary (kind_of x)) f.is ∙ o) (record { rest = rest; there = record { wrote = f.rest; valid = t.valid }; stmts = t.stmts; writes = λ g p. t.writes g p ∙ ap (λ (l : List ℕ). l ++ written_is g rest) (sym (ap (λ (l : List ℕ). take 1 l) h.is)) })
      go (is_raw k a rest l u t) =
          let h = headed (word_of k 0 ∷ a ∷ []) (words_is rest) t.is in
          let f = wrote_first h in
          let e : kind_of (get_or ws at 0) ≡ k = ap kind_of f.is ∙ kind_is k 0 (lit< tt) in
          raw_at (omega arith) (omega arith) (record { rest = rest; there = record { wrote = wrote_right (word_of k 0 ∷ a ∷ []) h; valid = t.valid }; stmts = t.stmts; writes = λ g p. t.writes g p ∙ ap (λ (l : List ℕ). l ++ written_is g rest) (sym (ap (λ (l : List ℕ). take 2 l) h.is)) })
      go (is_raws k a b rest l u t) =
          let h = headed (word_of k 0 ∷ a ∷ b ∷ []) (words_is rest) t.is in
          let f = wrote_first h in
          let e : kind_of (get_or ws at 0) ≡ k = ap kind_of f.is ∙ kind_is k 0 (lit< tt) in
          raws_at (omega arith) (omega arith) (record { rest = rest; there = record { wrote = wrote_right (word_of k 0 ∷ a ∷ b ∷ []) h; valid = t.valid }; stmts = t.stmts; writes = λ g p. t.writes g p ∙ ap (λ (l : List ℕ). l ++ written_is g rest) (sym (ap (λ (l : List ℕ). take 3 l) h.is)) })
      go (is_paren e rest t) =
          let f = wrote_first (headed (word_of 23 0 ∷ []) (words_is (expr_item e ∷ rest)) t.is) in
          paren_at (ap kind_of f.is ∙ kind_is 23 0 (lit< tt)) (record { inner = e; rest = rest; there = record { wrote = f.rest; valid = t.valid }; stmts = t.stmts; writes = t.writes })
      go (is_call x es rest v r t) =
          let f = wrote_first (headed (word_of 21 0 ∷ []) (words_is (call_parts x es rest)) t.is) in
          let h = headed (words (Call x es)) (words_is rest) t.is in
          call_at (ap kind_of f.is ∙ kind_is 21 0 (lit< tt)) (record {
            name = x;
            args = es;
            rest = rest;
            mid = at + length (words (Call x es));
            there = record { wrote = f.rest; valid = t.valid };
            whole = record { wrote = wrote_left (words (Call x es)) (words_is rest) h; valid = v };
            after = record { wrote = wrote_right (words (Call x es)) h; valid = r };
            stmts = t.stmts;
            writes = t.writes;
          })
      go (is_stmt k line r rest v s u t) =
          let f = wrote_first (headed (word_of (64 + number_of k) line ∷ []) (words_is (tree_item r ∷ rest)) t.is) in
          let h = headed (words_t (Stmt k line r)) (words_is rest) t.is in
          let e : kind_of (get_or ws at 0) ≡ 64 + number_of k = ap kind_of f.is ∙ kind_is (64 + number_of k) line v.0 in
          stmt_at (omega arith) (omega (arith, number_small k)) (record {
            kind = k;
            line = line;
            fields = r;
            rest = rest;
            mid = at + length (words_t (Stmt k line r));
            there = record { wrote = f.rest; valid = t.valid };
            whole = record { wrote = wrote_left (words_t (Stmt k line r)) (words_is rest) h; valid = v };
            shallow = s;
            after = record { wrote = wrote_right (words_t (Stmt k line r)) h; valid = u };
            stmts = t.stmts;
            writes = t.writes;
          })

-- ---- by the kind of the word there

-- an ordinary kind is none of the others
pub record Ordinary (k : ℕ) : Type 0 where
  pub no_call : k ≡ 21 → ⊥
  pub no_raw : 23 ≤ k → k < 28 → ⊥
  pub no_stmt : 64 ≤ k → k < 118 → ⊥

-- what the test of an ordinary kind says
pub ordinary_is : (k : ℕ) → ordinary k ≡ true → Ordinary k
unfolding ordinary
ordinary_is k e = or_cases (ltb k 21) _ e (λ p. let h = ltb-true k 21 p in record { no_call = λ q. omega arith; no_raw = λ a b. omega arith; no_stmt = λ a b. omega arith })
    (λ e'. or_cases (eqb k 22) _ e' (λ p. let h = eqb-true k 22 p in record { no_call = λ q. omega arith; no_raw = λ a b. omega arith; no_stmt = λ a b. omega arith })
    (λ p. let h = ltb-true k 64 (and_elim_right (leb 28 k) _ p) in let l = leb-true 28 k (and_elim_left (leb 28 k) _ p) in record { no_call = λ q. omega arith; no_raw = λ a b. omega arith; no_stmt = λ a b. omega arith }))

module _ {ws ns : List ℕ} {n d at : ℕ} {xs : List Item} {end : ℕ} (S : StandsAll ws ns n d at xs end) (z : at < end) where
  -- 24 or 25: a literal's head and one raw word
  pub at_raw : 24 ≤ kind_of (get_or ws at 0) → kind_of (get_or ws at 0) ≤ 25 → WordsAt ws ns n d at xs end 2
  at_raw l u = go (front_at S)
    where
      go : FrontAt ws ns n d at xs end → WordsAt ws ns n d at xs end 2
      go (over_at p q r) = absurd (omega arith)
      go (word_at k w) = absurd ((ordinary_is _ k).no_raw (omega arith) (omega arith))
      go (raw_at a b w) = w
      go (raws_at a b w) = absurd (omega arith)
      go (paren_at k w) = absurd (omega arith)
      go (call_at k w) = absurd (omega arith)
      go (stmt_at a b w) = absurd (omega arith)

  -- 26 or 27: a literal's head and two raw words
  pub at_raws : 26 ≤ kind_of (get_or ws at 0) → kind_of (get_or ws at 0) ≤ 27 → WordsAt ws ns n d at xs end 3
  at_raws l u = go (front_at S)
    where
      go : FrontAt ws ns n d at xs end → WordsAt ws ns n d at xs end 3
      go (over_at p q r) = absurd (omega arith)
      go (word_at k w) = absurd ((ordinary_is _ k).no_raw (omega arith) (omega arith))
      go (raw_at a b w) = absurd (omega arith)
      go (raws_at a b w) = w
      go (paren_at k w) = absurd (omega arith)
      go (call_at k w) = absurd (omega arith)
      go (stmt_at a b w) = absurd (omega arith)

  -- 23: parentheses
  pub at_paren : kind_of (get_or ws at 0) ≡ 23 → ParenAt ws ns n d at xs end
  at_paren e = go (front_at S)
    where
      go : FrontAt ws ns n d at xs end → ParenAt ws ns n d at xs end
      go (over_at p q r) = absurd (omega arith)
      go (word_at k w) = absurd ((ordinary_is _ k).no_raw (omega arith) (omega arith))
      go (raw_at a b w) = absurd (omega arith)
      go (raws_at a b w) = absurd (omega arith)
      go (paren_at k w) = w
      go (call_at k w) = absurd (omega arith)
      go (stmt_at a b w) = absurd (omega arith)

  -- 21: a call
  pub at_call : kind_of (get_or ws at 0) ≡ 21 → CallAt ws ns n d at xs end
  at_call e = go (front_at S)
    where
      go : FrontAt ws ns n d at xs end → CallAt ws ns n d at xs end
      go (over_at p q r) = absurd (omega arith)
      go (word_at k w) = absurd ((ordinary_is _ k).no_call e)
      go (raw_at a b w) = absurd (omega arith)
      go (raws_at a b w) = absurd (omega arith)
      go (paren_at k w) = absurd (omega arith)
      go (call_at k w) = w
      go (stmt_at a b w) = absurd (omega arith)

  -- 64 to 117: a statement
  pub at_stmt : 64 ≤ kind_of (get_or ws at 0) → kind_of (get_or ws at 0) < 118 → StmtAt ws ns n d at xs end
  at_stmt l u = go (front_at S)
    where
      go : FrontAt ws ns n d at xs end → StmtAt ws ns n d at xs end
      go (over_at p q r) = absurd (omega arith)
      go (word_at k w) = absurd ((ordinary_is _ k).no_stmt l u)
      go (raw_at a b w) = absurd (omega arith)
      go (raws_at a b w) = absurd (omega arith)
      go (paren_at k w) = absurd (omega arith)
      go (call_at k w) = absurd (omega arith)
      go (stmt_at a b w) = w

-- nothing is left at the end
pub at_end : {ws ns : List ℕ} {n d at : ℕ} {xs : List Item} {end : ℕ} → StandsAll ws ns n d at xs end → end ≤ at → (at ≡ end) × (outer_is xs ≡ []) × ((g : Piece Expr → List ℕ) → written_is g xs ≡ [])
at_end {ws} {ns} {n} {d} {at} {xs} {end} S z = go (front_at S)
  where
    go : FrontAt ws ns n d at xs end → (at ≡ end) × (outer_is xs ≡ []) × ((g : Piece Expr → List ℕ) → written_is g xs ≡ [])
    go (over_at p q r) = (p, q, r)
    go (word_at k w) = absurd (omega (arith, w.there.wrote.span))
    go (raw_at a b w) = absurd (omega (arith, w.there.wrote.span))
    go (raws_at a b w) = absurd (omega (arith, w.there.wrote.span))
    go (paren_at k w) = absurd (omega (arith, w.there.wrote.span))
    go (call_at k w) = absurd (omega (arith, w.there.wrote.span))
    go (stmt_at a b w) = absurd (omega (arith, w.there.wrote.span))

-- ---- where a scan begins

-- one tree alone
pub items_tree : {ws ns : List ℕ} {n d at end : ℕ} {i : Shape} {v : Tree Expr i} → quiet_i i ≡ true → Stands ws ns n at v end → depth_t v ≤ d → StandsAll ws ns n d at (tree_item v ∷ []) end
unfolding words_i words_is RightI RightIs
items_tree {v = v} q s h = record { wrote = rw (append-nil (words_t v)) s.wrote; valid = ((q, s.valid, h), tt) }

-- the place is inside the words
pub items_inside : {ws ns : List ℕ} {n d at : ℕ} {xs : List Item} {end : ℕ} → StandsAll ws ns n d at xs end → (at ≤ end) × (end ≤ length ws)
items_inside S = (omega (arith, S.wrote.span), S.wrote.inside)
