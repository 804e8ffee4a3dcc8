-- Rows of fields, as a sequence of answers. Assumes nothing.
use Prim.Native.Nat.{ℕ, zero, suc, ◌+◌, ◌-◌, ◌<◌, ◌≤◌}
use mathlib.Core.Path.{◌≡◌, refl, sym, ap, subst, ◌∙◌}
use mathlib.Core.List.{List, [], ◌∷◌, ◌++◌, map}
use mathlib.Core.Bool.{Bool, true, false, ◌&&◌}
use mathlib.Mathlib.Data.Bool.Basic.{and_elim_left, and_elim_right}
use native.Mathlib.Omega.{arith}
use native.Mathlib.Numerals.{add-one, sub-one}
use native.Mathlib.Nat.{le_trans, le_of_eq}
use lib.ListN.{length, get_or, take, drop, drop_of_length-le, get_or-map}
use lib.Dec.{ltb, leb, eqb}
use borrow.Author.Tests.{lt-ltb, le-ltb, le-leb, eq-eqb, ne_eqb, ltb-true, ltb-false, leb-true}
use Rattle.tree_expr.specs.Expr.{Expr}
use Rattle.base_words.specs.Word.{word_of, pick, kind_of, pay_of}
use Rattle.tree_expr.specs.Got.{Got, got, wrong, bind}
use Rattle.tree_expr.specs.Reader.{leaf_at, name_at, head_at, expr_at}
use Rattle.tree_expr.specs.Answer.{step_of, then, Step}
use Rattle.tree_expr.specs.declared.Cursor.{Cursor}
use Rattle.tree_expr.proofs.Steps.{step_map, step_bind, last, hands_on, stop, next_leaf}
use mathlib.Core.Logic.{◌⊎◌, inl, inr, ⊎_elim}
use Rattle.std.specs.Result.{IsErrAnd}
use Rattle.tree_expr.specs.declared.Misread.{Misread}
use Rattle.tree_stmt.specs.Sorts.{Leaf, Sort, leaf, expr, stmt, many, group, either, never, Sorts, nil, ◌&◌, flag, whole, letter, one_of, named, quoted, opt, GotoTarget, TypeRef, PrintItem, sorts, kinds, kind_at, lock}
use Rattle.tree_stmt.specs.Tree.{strings, one, row, Tree, word, value, Stmt, list, part, this, that, kind_l, ok_l, between}
use Rattle.tree_stmt.specs.Codes.{parts, all_rows, row_of, singles, sort_at, decode, chain, part_codes, stmt_codes, codes, decoded}
use Rattle.tree_stmt.specs.Reader.{word_at, never_at, is_at, stmt_head, rows_at, field_at, row_at, rest_at, stmt_at}
use Rattle.std.specs.Prelude.{Ok, Err}
use Rattle.tree_expr.specs.declared.Misread.TheVariants.{Wrong, Deep}

-- ---- the numbers of the tables

-- within a list it does not matter what stands past its end
pub get_d_any : {A : Type 0} (l : List A) (i : ℕ) (d d' : A) → i < length l → get_or l i d ≡ get_or l i d'
get_d_any [] i d d' h = absurd (omega arith)
get_d_any (x ∷ l) zero d d' h = refl
get_d_any (x ∷ l) (suc i) d d' h = get_d_any l i d d' (omega arith)

-- a row ends at the first 0
pub decode_stop : (cs : List ℕ) (i : ℕ) → get_or cs i 0 ≡ 0 → decode (drop i cs) ≡ nil
unfolding decode
decode_stop [] zero h = refl
decode_stop [] (suc i) h = refl
decode_stop (zero ∷ cs) zero h = refl
decode_stop (suc c ∷ cs) zero h = absurd (omega arith)
decode_stop (x ∷ cs) (suc i) h = decode_stop cs i h

decode_suc : (cs : List ℕ) (i : ℕ) → (get_or cs i 0 ≡ 0 → ⊥) → decode (drop i cs) ≡ sort_at (get_or cs i 0) & decode (drop (suc i) cs)
unfolding decode
decode_suc [] i h = absurd (h refl)
decode_suc (zero ∷ cs) zero h = absurd (h refl)
decode_suc (suc c ∷ cs) zero h = refl
decode_suc (x ∷ cs) (suc i) h = decode_suc cs i h

-- any other number is a field's
pub decode_go : (cs : List ℕ) (i : ℕ) → (get_or cs i 0 ≡ 0 → ⊥) → decode (drop i cs) ≡ sort_at (get_or cs i 0) & decode (drop (i + 1) cs)
decode_go cs i h = rw (add-one i) (decode_suc cs i h)

-- no row has more than six
sixes : List (List ℕ) → Bool
sixes [] = true
sixes (l ∷ ls) = leb (length l) 6 && sixes ls

six_at : (ls : List (List ℕ)) (r : ℕ) → sixes ls ≡ true → length (get_or ls r []) ≤ 6
unfolding sixes
six_at [] r e = omega arith
six_at (l ∷ ls) zero e = leb-true (length l) 6 (and_elim_left _ _ e)
six_at (l ∷ ls) (suc r) e = six_at ls r (and_elim_right (leb (length l) 6) _ e)

-- past the sixth number no field is left
pub decode_over : (r i : ℕ) → 6 ≤ i → decode (drop i (codes r)) ≡ nil
unfolding decode codes part_codes stmt_codes sixes
decode_over r i h =
    let z : length (codes r) ≤ 6 = six_at (part_codes ++ stmt_codes) r refl in
    rw (drop_of_length-le (codes r) (le_trans z h)) refl

-- the row in numbers is the row
pub decode_row : (r : ℕ) → decode (codes r) ≡ row_of r
unfolding row_of codes decode
decode_row r = sym (get_or-map decode (part_codes ++ stmt_codes) r []) ∙ ap (λ (l : List Sorts). get_or l r nil) decoded

-- row r + i is the i-th of those that follow one another from r on
pub row_chain : (r count i : ℕ) → i < count → row_of (r + i) ≡ get_or (take count (drop r all_rows)) i nil
unfolding row_of
row_chain r count i h = sym (lib.Seq.get_or-take count (drop r all_rows) i nil h ∙ lib.Seq.get_or-drop r all_rows i nil)

rows_93 : length all_rows ≡ 93
unfolding all_rows parts kinds
rows_93 = refl

-- as many of these as are asked for, within the 93 rows
pub length_chain : (r count : ℕ) → r + count ≤ 93 → length (take count (drop r all_rows)) ≡ count
length_chain r count h = lib.Seq.length-take-le count (drop r all_rows) (omega (arith, lib.ListN.length-drop r all_rows, rows_93))

-- ---- sizes, by which the calls end

unfoldable mutual
  -- of a field's sort
  pub size_s : Sort → ℕ
  size_s (leaf l) = 1
  size_s expr = 1
  size_s stmt = 1
  size_s (many ss) = size_r ss + 2
  size_s (group ss) = size_r ss + 2
  size_s (either k ss s) = size_r ss + size_s s + 2
  size_s never = 1

  -- of a row's sorts
  pub size_r : Sorts → ℕ
  size_r nil = 1
  size_r (s & ss) = size_s s + size_r ss + 2

-- of a list
pub size_many : (ss : Sorts) → size_s (many ss) ≡ size_r ss + 2
unfolding size_s
size_many ss = refl

-- of a group
pub size_group : (ss : Sorts) → size_s (group ss) ≡ size_r ss + 2
unfolding size_s
size_group ss = refl

-- of an option
pub size_opt : (ss : Sorts) → size_s (opt ss) ≡ 1 + (size_r ss + 2) + 2
unfolding size_s size_r
size_opt ss = refl

-- of a row without fields
pub size_none : size_r nil ≡ 1
unfolding size_r
size_none = refl

-- a row's size is not 0
pub size_pos : (ss : Sorts) → 0 < size_r ss
unfolding size_r
size_pos nil = lib.Dec.lit< tt
size_pos (s & ss) = omega arith

-- of a row, by its first field
pub size_cons : (s : Sort) (ss : Sorts) → size_r (s & ss) ≡ size_s s + size_r ss + 2
unfolding size_r
size_cons s ss = refl

smalls : List Sorts → Bool
smalls [] = true
smalls (ss ∷ l) = ltb (size_r ss) 1000 && smalls l

small_at : (l : List Sorts) (r : ℕ) → smalls l ≡ true → size_r (get_or l r nil) < 1000
unfolding smalls size_r
small_at [] r e = lib.Dec.lit< tt
small_at (ss ∷ l) zero e = ltb-true (size_r ss) 1000 (and_elim_left _ _ e)
small_at (ss ∷ l) (suc r) e = small_at l r (and_elim_right (ltb (size_r ss) 1000) _ e)

-- every row's size is below 1000
pub small_row : (r : ℕ) → size_r (row_of r) < 1000
unfolding row_of smalls size_r size_s all_rows parts sorts kinds
small_row r = small_at all_rows r refl

-- the row in numbers is no larger than the row
pub size_start : (r : ℕ) → size_r (decode (drop 0 (codes r))) ≤ size_r (row_of r)
size_start r = le_of_eq (ap size_r (decode_row r))

-- the size from field i on, by this field
pub size_step : (r i k : ℕ) → k ≡ get_or (codes r) i 0 → (k ≡ 0 → ⊥) → size_r (decode (drop i (codes r))) ≡ size_s (sort_at k) + size_r (decode (drop (i + 1) (codes r))) + 2
size_step r i k e z = ap size_r (decode_go (codes r) i (λ y. z (e ∙ y)) ∙ ap (λ (x : ℕ). sort_at x & decode (drop (i + 1) (codes r))) (sym e)) ∙ size_cons _ _

-- ---- fields

-- a name as expressions read it
pub name_word : (ws ns : List ℕ) (at : ℕ) {r : Step} → r ≡ step_of (name_at ws ns at) → r ≡ step_of (word_at ws 2 (λ (x : ℕ). eqb (get_or ns x 0) 1) at)
unfolding name_at word_at
name_word ws ns at e = e

-- the sorts that have a number of their own; a choice of variants but TypeRef as the rows of the table give it
abbrev pub own_sorts : List Sort
own_sorts = never ∷ named ∷ quoted ∷ flag ∷ whole ∷ letter ∷ one_of 4 ∷ one_of 5 ∷ one_of 18 ∷ expr ∷ stmt ∷ chain 48 (take 2 (drop 22 all_rows)) ∷ TypeRef ∷ chain 32 (take 3 (drop 30 all_rows)) ∷ chain 36 (take 3 (drop 33 all_rows)) ∷ chain 52 (take 3 (drop 36 all_rows)) ∷ []

singles_are : singles ≡ own_sorts
unfolding all_rows chain parts singles
singles_are = refl

-- a number below 16 is that of a sort with a number of its own: the sort in the list at that place
pub is_own : (i : ℕ) {k : ℕ} → k ≡ i → ltb i 16 ≡ true → sort_at k ≡ get_or own_sorts i never
unfolding sort_at
is_own i e h = ap sort_at e ∙ rw h (ap (λ (l : List Sort). get_or l i never) singles_are)

-- 11 is where GOTO goes
pub is_target : {k : ℕ} → k ≡ 11 → sort_at k ≡ GotoTarget
unfolding all_rows chain parts
is_target e = is_own 11 e refl

-- 13 is an item of PRINT
pub is_item : {k : ℕ} → k ≡ 13 → sort_at k ≡ PrintItem
unfolding all_rows chain parts
is_item e = is_own 13 e refl

-- 16 to 63 are options of a row
pub sort_opt : (s : ℕ) → 16 ≤ s → s < 64 → sort_at s ≡ opt (row_of (s - 16))
unfolding sort_at
sort_opt s a b = simp (le-ltb s 16 a, lt-ltb s 64 b)

-- 64 to 111 are lists of a row
pub sort_many : (s : ℕ) → 64 ≤ s → s < 112 → sort_at s ≡ many (row_of (s - 64))
unfolding sort_at
sort_many s a b = let z : 16 ≤ s = omega arith in simp (le-ltb s 16 z, le-ltb s 64 a, lt-ltb s 112 b)

-- the numbers from 112 on are groups of a row
pub sort_group : (s : ℕ) → 112 ≤ s → sort_at s ≡ group (row_of (s - 112))
unfolding sort_at
sort_group s a = let z : 16 ≤ s = omega arith in let y : 64 ≤ s = omega arith in simp (le-ltb s 16 z, le-ltb s 64 y, le-ltb s 112 a)

-- a number that is not 0 is above 0
pub pos : {k : ℕ} → (k ≡ 0 → ⊥) → 0 < k
pos {k} f = omega arith

-- where nothing is read after it
pub then_read : (s : Step) → then s (λ m. Ok (record { at = m })) ≡ s
unfolding then
then_read (Ok c) = refl
then_read (Err (Wrong p)) = refl
then_read (Err (Deep p)) = refl

-- where no head of the kinds from a to b is read: the words have ended, or the word here is none
head_fails : (ws : List ℕ) (a b at : ℕ) {m : Misread} → Err m ≡ step_of (head_at ws a b at)
    → ((m ≡ Wrong (length ws)) × (length ws ≤ at)) ⊎ ((m ≡ Wrong at) × (at < length ws) × (pay_of (get_or ws at 0) ≡ 0 → a ≤ kind_of (get_or ws at 0) → kind_of (get_or ws at 0) ≤ b → ⊥))
unfolding head_at step_of
head_fails ws a b at {m} e = go (ltb at (length ws)) (leb a (kind_of (get_or ws at 0))) (leb (kind_of (get_or ws at 0)) b) (eqb (pay_of (get_or ws at 0)) 0) refl refl refl refl e
  where
    go : (x y z w : Bool) → ltb at (length ws) ≡ x → leb a (kind_of (get_or ws at 0)) ≡ y → leb (kind_of (get_or ws at 0)) b ≡ z → eqb (pay_of (get_or ws at 0)) 0 ≡ w
        → Err m ≡ step_of (pick x (pick y (pick z (pick w (got (kind_of (get_or ws at 0)) (at + 1)) (wrong at)) (wrong at)) (wrong at)) (wrong (length ws)))
        → ((m ≡ Wrong (length ws)) × (length ws ≤ at)) ⊎ ((m ≡ Wrong at) × (at < length ws) × (pay_of (get_or ws at 0) ≡ 0 → a ≤ kind_of (get_or ws at 0) → kind_of (get_or ws at 0) ≤ b → ⊥))
    go false y z w p q r s e = inl (cc, ltb-false at (length ws) p)
    go true false z w p q r s e = inr (cc, ltb-true at (length ws) p, λ u v t. let f = le-leb a (kind_of (get_or ws at 0)) v in cc)
    go true true false w p q r s e = inr (cc, ltb-true at (length ws) p, λ u v t. let f = le-leb (kind_of (get_or ws at 0)) b t in cc)
    go true true true false p q r s e = inr (cc, ltb-true at (length ws) p, λ u v t. let f = eq-eqb (pay_of (get_or ws at 0)) 0 u in cc)
    go true true true true p q r s e = absurd cc

-- a list
pub rows_none : (ws ns : List ℕ) (n : ℕ) {ss : Sorts} (f : ℕ → Got (Tree Expr (row ss))) (count : ℕ) (c : Cursor) → count ≤ 0 → step_of (rows_at ws ns n f count c.at) ≡ Ok c
unfolding rows_at step_of
rows_none ws ns n f zero c z = refl
rows_none ws ns n f (suc k) c z = absurd (omega arith)

-- one row, and then the others
pub rows_more : (ws ns : List ℕ) (n : ℕ) {ss : Sorts} (f : ℕ → Got (Tree Expr (row ss))) (count m : ℕ) → 0 < count → step_of (rows_at ws ns n f count m) ≡ then (step_of (f m)) (λ m'. step_of (rows_at ws ns n f (count - 1) m'))
unfolding rows_at
rows_more ws ns n f zero m z = absurd (omega arith)
rows_more ws ns n f (suc k) m z = rw sub-one (step_bind _ _ _ (λ x m'. step_map _ _))

module _ (ws ns : List ℕ) (n : ℕ) (sub : ℕ → Got Expr) (sub_s : ℕ → Got (Tree Expr (one stmt))) where
  -- a field whose number is k
  pub arm : (k : ℕ) (s : Sort) (m : ℕ) {r : Step} → sort_at k ≡ s → r ≡ step_of (field_at ws ns n sub sub_s s m) → r ≡ step_of (field_at ws ns n sub sub_s (sort_at k) m)
  arm k s m {r} q h = subst (λ (x : Sort). r ≡ step_of (field_at ws ns n sub sub_s x m)) (sym q) h

  -- a field of one word
  pub leaf_arm : (k : ℕ) (l : Leaf) (m : ℕ) {r : Step} → sort_at k ≡ leaf l → r ≡ step_of (word_at ws (kind_l l) (ok_l ns n l) m) → r ≡ step_of (field_at ws ns n sub sub_s (sort_at k) m)
  unfolding field_at
  leaf_arm k l m q h = arm k (leaf l) m q (last word _ h)

  -- an expression
  pub expr_arm : (m : ℕ) {r : Step} → r ≡ step_of (sub m) → r ≡ step_of (field_at ws ns n sub sub_s expr m)
  unfolding field_at
  expr_arm m h = last value _ h

  -- a statement
  pub stmt_arm : (m : ℕ) {r : Step} → r ≡ step_of (sub_s m) → r ≡ step_of (field_at ws ns n sub sub_s stmt m)
  unfolding field_at
  stmt_arm m h = h

  -- no value
  pub never_arm : (m : ℕ) {r : Step} → r ≡ step_of (never_at ws {A = ℕ} m) → r ≡ step_of (field_at ws ns n sub sub_s never m)
  unfolding field_at never_at step_of
  never_arm m {r} h = go (ltb m (length ws)) h
    where
      go : (b : Bool) → r ≡ step_of (pick {A = Got ℕ} b (wrong m) (wrong (length ws))) → r ≡ step_of (pick {A = Got (Tree Expr (one never))} b (wrong m) (wrong (length ws)))
      go true e = e
      go false e = e

  -- a group: its row
  pub group_arm : (ss : Sorts) (m : ℕ) {r : Step} → r ≡ step_of (row_at ws ns n sub sub_s ss m) → r ≡ step_of (field_at ws ns n sub sub_s (group ss) m)
  unfolding field_at
  group_arm ss m h = last part _ h

  -- the word 0, or a row
  pub opt_none : (ss : Sorts) (at : ℕ) → at < length ws → get_or ws at 0 ≡ 0 → Ok (record { at = at + 1 }) ≡ step_of (field_at ws ns n sub sub_s (opt ss) at)
  unfolding field_at row_at is_at bind step_of
  opt_none ss at h e = simp (lt-ltb at (length ws) h, eq-eqb (get_or ws at 0) 0 e)

  -- where the word isn't 0, the row
  pub opt_some : (ss : Sorts) (at : ℕ) {r : Step} → is_at ws 0 at ≡ false → r ≡ step_of (row_at ws ns n sub sub_s ss at) → r ≡ step_of (field_at ws ns n sub sub_s (opt ss) at)
  unfolding field_at
  opt_some ss at f h = rw f (last that _ (group_arm ss at h))

  -- heads one after another
  pub chain_end : (k : ℕ) (rs : List Sorts) (at : ℕ) → length ws ≤ at → Err (Wrong (length ws)) ≡ step_of (field_at ws ns n sub sub_s (chain k rs) at)
  unfolding chain field_at never_at is_at step_of
  chain_end k [] at h = simp (le-ltb at (length ws) h)
  chain_end k (ss ∷ rs) at h = simp (le-ltb at (length ws) h) (last that _ (chain_end (suc k) rs at h))

  -- the word is none of the heads: it is wrong
  pub chain_no : (k : ℕ) (rs : List Sorts) (at : ℕ) → at < length ws → ((j : ℕ) → j < length rs → get_or ws at 0 ≡ word_of (k + j) 0 → ⊥) → Err (Wrong at) ≡ step_of (field_at ws ns n sub sub_s (chain k rs) at)
  unfolding chain field_at never_at is_at step_of
  chain_no k [] at h f = simp (lt-ltb at (length ws) h)
  chain_no k (ss ∷ rs) at h f =
      let z : get_or ws at 0 ≡ word_of k 0 → ⊥ = λ e. f 0 (omega arith) (omega arith) in
      simp (lt-ltb at (length ws) h, ne_eqb (get_or ws at 0) (word_of k 0) z) (last that _ (chain_no (suc k) rs at h (λ j i e. f (suc j) (omega arith) (omega arith))))

  -- it is the j-th head: its row follows
  pub chain_yes : (k : ℕ) (rs : List Sorts) (j at : ℕ) {r : Step} → at < length ws → j < length rs → get_or ws at 0 ≡ word_of (k + j) 0 → r ≡ step_of (row_at ws ns n sub sub_s (get_or rs j nil) (at + 1)) → r ≡ step_of (field_at ws ns n sub sub_s (chain k rs) at)
  unfolding chain field_at is_at
  chain_yes k [] j at h i e q = absurd (omega arith)
  chain_yes k (ss ∷ rs) zero at h i e q =
      let z : get_or ws at 0 ≡ word_of k 0 = omega arith in
      simp (lt-ltb at (length ws) h, eq-eqb (get_or ws at 0) (word_of k 0) z) (last this _ q)
  chain_yes k (ss ∷ rs) (suc j) at h i e q =
      let z : get_or ws at 0 ≡ word_of k 0 → ⊥ = λ y. omega arith in
      simp (lt-ltb at (length ws) h, ne_eqb (get_or ws at 0) (word_of k 0) z) (last that _ (chain_yes (suc k) rs j at h (omega arith) (omega arith) q))

  -- by the kind and the payload of a word: it is none of the heads
  heads_no : (k : ℕ) (rs : List Sorts) (at : ℕ) → at < length ws → (pay_of (get_or ws at 0) ≡ 0 → k ≤ kind_of (get_or ws at 0) → kind_of (get_or ws at 0) < k + length rs → ⊥) → Err (Wrong at) ≡ step_of (field_at ws ns n sub sub_s (chain k rs) at)
  heads_no k rs at h f =
      chain_no k rs at h (λ j i e.
      let z : kind_of (get_or ws at 0) ≡ k + j = omega (arith, e) in
      f (omega (arith, e)) (omega (arith, z)) (omega (arith, z, i)))

  -- no head from k to b is read: the choice fails as the head does
  heads_stop : (k b : ℕ) (rs : List Sorts) (at : ℕ) {s r : Step} {m : Misread} → b + 1 ≡ k + length rs → s ≡ step_of (head_at ws k b at) → s ≡ Err m → IsErrAnd r (λ x. x ≡ m) → r ≡ step_of (field_at ws ns n sub sub_s (chain k rs) at)
  heads_stop k b rs at l e q h =
      ⊎_elim (λ v. hands_on h ∙ ap Err v.0 ∙ chain_end k rs at v.1) (λ v. hands_on h ∙ ap Err v.0 ∙ heads_no k rs at v.1 (λ p f i. v.2 p f (omega arith))) (head_fails ws k b at (sym q ∙ e))

  -- it is the j-th
  heads_go : (k : ℕ) (rs : List Sorts) (j at : ℕ) {r : Step} → at < length ws → j < length rs → pay_of (get_or ws at 0) ≡ 0 → kind_of (get_or ws at 0) ≡ k + j → r ≡ step_of (row_at ws ns n sub sub_s (get_or rs j nil) (at + 1)) → r ≡ step_of (field_at ws ns n sub sub_s (chain k rs) at)
  heads_go k rs j at h i p q e = chain_yes k rs j at h i (omega (arith, p, q)) e

  -- a row
  pub row_more : (s : Sort) (ss : Sorts) (m : ℕ) → step_of (row_at ws ns n sub sub_s (s & ss) m) ≡ then (step_of (field_at ws ns n sub sub_s s m)) (λ m'. step_of (row_at ws ns n sub sub_s ss m'))
  unfolding row_at
  row_more s ss m = step_bind _ _ _ (λ v m'. step_map _ _)

  -- a list without its head fails as the head does
  pub many_stop : (ss : Sorts) (at : ℕ) {s r : Step} {m : Misread} → s ≡ step_of (leaf_at ws 1 16777216 at) → s ≡ Err m → IsErrAnd r (λ x. x ≡ m) → r ≡ step_of (field_at ws ns n sub sub_s (many ss) at)
  unfolding field_at
  many_stop ss at e t h = stop _ _ e t h

  -- behind its head, as many rows as it says
  pub many_go : (ss : Sorts) (at : ℕ) {s r : Step} {c : Cursor} → s ≡ step_of (leaf_at ws 1 16777216 at) → s ≡ Ok c → r ≡ step_of (rows_at ws ns n (λ x. row_at ws ns n sub sub_s ss x) (pay_of (get_or ws at 0)) c.at) → r ≡ step_of (field_at ws ns n sub sub_s (many ss) at)
  unfolding field_at
  many_go ss at e q h = next_leaf _ _ _ _ _ e q (last list _ h)

  -- a type's heads
  abbrev type_rows : List Sorts
  type_rows = nil ∷ nil ∷ nil ∷ nil ∷ (whole & nil) ∷ (named & nil) ∷ []

  plain_row : (j : ℕ) → j < 4 → get_or type_rows j nil ≡ nil
  plain_row zero h = refl
  plain_row (suc zero) h = refl
  plain_row (suc (suc zero)) h = refl
  plain_row (suc (suc (suc zero))) h = refl
  plain_row (suc (suc (suc (suc j)))) h = absurd (omega arith)

  -- a row of one field
  pub row_one : (s : Sort) (m : ℕ) {r : Step} → r ≡ step_of (field_at ws ns n sub sub_s s m) → r ≡ step_of (row_at ws ns n sub sub_s (s & nil) m)
  unfolding row_at step_of
  row_one s m e = e ∙ sym (row_more s nil m ∙ then_read _)

  -- no head from 40 to 45: the type fails as the head does
  pub type_stop : (at : ℕ) {s r : Step} {m : Misread} → s ≡ step_of (head_at ws 40 45 at) → s ≡ Err m → IsErrAnd r (λ x. x ≡ m) → r ≡ step_of (field_at ws ns n sub sub_s TypeRef at)
  unfolding chain
  type_stop at e q h = heads_stop 40 45 type_rows at refl e q h

  -- 40 to 43: nothing follows
  pub type_plain : (at : ℕ) → at < length ws → pay_of (get_or ws at 0) ≡ 0 → 40 ≤ kind_of (get_or ws at 0) → kind_of (get_or ws at 0) ≤ 43 → Ok (record { at = at + 1 }) ≡ step_of (field_at ws ns n sub sub_s TypeRef at)
  unfolding chain row_at step_of
  type_plain at h p a b =
      heads_go 40 type_rows (kind_of (get_or ws at 0) - 40) at h (omega arith) p (omega arith)
      (rw (plain_row (kind_of (get_or ws at 0) - 40) (omega arith)) refl)

  -- 44: a length follows
  pub type_length : (at : ℕ) {r : Step} → at < length ws → pay_of (get_or ws at 0) ≡ 0 → kind_of (get_or ws at 0) ≡ 44 → r ≡ step_of (word_at ws 4 (between 0 16777216) (at + 1)) → r ≡ step_of (field_at ws ns n sub sub_s TypeRef at)
  unfolding chain field_at
  type_length at h p k e = heads_go 40 type_rows 4 at h (omega arith) p k (row_one whole (at + 1) (last word _ e))

  -- 45: a name follows
  pub type_name : (at : ℕ) {r : Step} → at < length ws → pay_of (get_or ws at 0) ≡ 0 → kind_of (get_or ws at 0) ≡ 45 → r ≡ step_of (word_at ws 2 (λ (x : ℕ). eqb (get_or ns x 0) 1) (at + 1)) → r ≡ step_of (field_at ws ns n sub sub_s TypeRef at)
  unfolding chain field_at
  type_name at h p k e = heads_go 40 type_rows 5 at h (omega arith) p k (row_one named (at + 1) (last word _ e))

  -- a target's heads
  abbrev target_rows : List Sorts
  target_rows = (whole & nil) ∷ (named & nil) ∷ []

  -- neither of the heads 48 and 49: the target fails as the head does
  pub target_stop : (at : ℕ) {s r : Step} {m : Misread} → s ≡ step_of (head_at ws 48 49 at) → s ≡ Err m → IsErrAnd r (λ x. x ≡ m) → r ≡ step_of (field_at ws ns n sub sub_s GotoTarget at)
  unfolding chain
  target_stop at e q h = heads_stop 48 49 target_rows at refl e q h

  -- 48: a line's number follows
  pub target_line : (at : ℕ) {r : Step} → at < length ws → pay_of (get_or ws at 0) ≡ 0 → kind_of (get_or ws at 0) ≡ 48 → r ≡ step_of (word_at ws 4 (between 0 16777216) (at + 1)) → r ≡ step_of (field_at ws ns n sub sub_s GotoTarget at)
  unfolding chain field_at
  target_line at h p k e = heads_go 48 target_rows 0 at h (omega arith) p k (row_one whole (at + 1) (last word _ e))

  -- 49: a label's name follows
  pub target_label : (at : ℕ) {r : Step} → at < length ws → pay_of (get_or ws at 0) ≡ 0 → kind_of (get_or ws at 0) ≡ 49 → r ≡ step_of (word_at ws 2 (λ (x : ℕ). eqb (get_or ns x 0) 1) (at + 1)) → r ≡ step_of (field_at ws ns n sub sub_s GotoTarget at)
  unfolding chain field_at
  target_label at h p k e = heads_go 48 target_rows 1 at h (omega arith) p k (row_one named (at + 1) (last word _ e))

  -- the heads of an item of PRINT
  abbrev item_rows : List Sorts
  item_rows = (expr & nil) ∷ nil ∷ nil ∷ []

  bare_row : (j : ℕ) → 1 ≤ j → j < 3 → get_or item_rows j nil ≡ nil
  bare_row zero g h = absurd (omega arith)
  bare_row (suc zero) g h = refl
  bare_row (suc (suc zero)) g h = refl
  bare_row (suc (suc (suc j))) g h = absurd (omega arith)

  -- no head from 32 to 34: the item fails as the head does
  pub item_stop : (at : ℕ) {s r : Step} {m : Misread} → s ≡ step_of (head_at ws 32 34 at) → s ≡ Err m → IsErrAnd r (λ x. x ≡ m) → r ≡ step_of (field_at ws ns n sub sub_s PrintItem at)
  unfolding chain
  item_stop at e q h = heads_stop 32 34 item_rows at refl e q h

  -- 32: an expression follows
  pub item_expr : (at : ℕ) {r : Step} → at < length ws → pay_of (get_or ws at 0) ≡ 0 → kind_of (get_or ws at 0) ≡ 32 → r ≡ step_of (sub (at + 1)) → r ≡ step_of (field_at ws ns n sub sub_s PrintItem at)
  unfolding chain
  item_expr at h p k e = heads_go 32 item_rows 0 at h (omega arith) p k (row_one expr (at + 1) (expr_arm (at + 1) e))

  -- 33 and 34: nothing follows
  pub item_plain : (at : ℕ) → at < length ws → pay_of (get_or ws at 0) ≡ 0 → 33 ≤ kind_of (get_or ws at 0) → kind_of (get_or ws at 0) ≤ 34 → Ok (record { at = at + 1 }) ≡ step_of (field_at ws ns n sub sub_s PrintItem at)
  unfolding chain row_at step_of
  item_plain at h p a b =
      heads_go 32 item_rows (kind_of (get_or ws at 0) - 32) at h (omega arith) p (omega arith)
      (rw (bare_row (kind_of (get_or ws at 0) - 32) (omega arith) (omega arith)) refl)

  -- no head from `first` to the last of `count`: the choice fails as the head does
  pub choice_stop : (first count r at : ℕ) {s a : Step} {m : Misread} → r + count ≤ 93 → 0 < count → s ≡ step_of (head_at ws first (first + count - 1) at) → s ≡ Err m → IsErrAnd a (λ x. x ≡ m) → a ≡ step_of (field_at ws ns n sub sub_s (chain first (take count (drop r all_rows))) at)
  choice_stop first count r at b z e q h =
      let l : length (take count (drop r all_rows)) ≡ count = length_chain r count b in
      heads_stop first (first + count - 1) (take count (drop r all_rows)) at (omega (arith, l)) e q h

  -- it is one of them: the row of its number follows
  pub choice_go : (first count r at : ℕ) {a : Step} → r + count ≤ 93 → at < length ws → pay_of (get_or ws at 0) ≡ 0 → first ≤ kind_of (get_or ws at 0) → kind_of (get_or ws at 0) - first < count → a ≡ step_of (row_at ws ns n sub sub_s (row_of (r + (kind_of (get_or ws at 0) - first))) (at + 1)) → a ≡ step_of (field_at ws ns n sub sub_s (chain first (take count (drop r all_rows))) at)
  choice_go first count r at {a} b h p f i q =
      let j : ℕ = kind_of (get_or ws at 0) - first in
      let e : get_or ws at 0 ≡ word_of (first + j) 0 = omega arith in
      chain_yes first (take count (drop r all_rows)) j at h (subst (λ (x : ℕ). j < x) (sym (length_chain r count b)) i) e
      (subst (λ (ss : Sorts). a ≡ step_of (row_at ws ns n sub sub_s ss (at + 1))) (row_chain r count j i) q)

-- a statement: its head, then its row
module _ (ws : List ℕ) (at : ℕ) where
  -- past the words no head is
  pub head_end : length ws ≤ at → stmt_head ws at ≡ wrong (length ws)
  unfolding stmt_head
  head_end h = simp (le-ltb at (length ws) h)

  -- a kind that is not from 64 to 117 is none
  pub head_none : at < length ws → (64 ≤ kind_of (get_or ws at 0) → kind_of (get_or ws at 0) < 118 → ⊥) → stmt_head ws at ≡ wrong at
  unfolding stmt_head
  head_none h f = go (leb 64 (kind_of (get_or ws at 0))) refl
    where
      go : (b : Bool) → leb 64 (kind_of (get_or ws at 0)) ≡ b → stmt_head ws at ≡ wrong at
      go false q = simp (lt-ltb at (length ws) h, q)
      go true q =
          let g : kind_of (get_or ws at 0) < 118 → ⊥ = f (leb-true 64 (kind_of (get_or ws at 0)) q) in
          simp (lt-ltb at (length ws) h, q, le-ltb (kind_of (get_or ws at 0)) 118 (omega arith))

  -- one from 64 to 117 is
  pub head_ok : at < length ws → 64 ≤ kind_of (get_or ws at 0) → kind_of (get_or ws at 0) < 118 → stmt_head ws at ≡ got (get_or ws at 0) (at + 1)
  unfolding stmt_head
  head_ok h k z = simp (lt-ltb at (length ws) h, le-leb 64 (kind_of (get_or ws at 0)) k, lt-ltb (kind_of (get_or ws at 0)) 118 z)

-- without a head there is no statement
pub stmt_bad : (ws ns : List ℕ) (n left at p : ℕ) → stmt_head ws at ≡ wrong p → Err (Wrong p) ≡ step_of (stmt_at ws ns n left at)
unfolding stmt_at bind step_of
stmt_bad ws ns n zero at p h = rw h refl
stmt_bad ws ns n (suc d) at p h = rw h refl

-- a head where no level is left is too deep
pub stmt_deep : (ws ns : List ℕ) (n left at w m : ℕ) → left ≡ 0 → stmt_head ws at ≡ got w m → Err (Deep at) ≡ step_of (stmt_at ws ns n left at)
unfolding stmt_at bind step_of
stmt_deep ws ns n left at w m z h = rw (z, h) refl

-- row 39 + j is that of the j-th kind
pub row_kind : (j : ℕ) → j < 54 → row_of (j + 39) ≡ sorts (kind_at j)
unfolding row_of all_rows kind_at kinds parts
row_kind j h =
    ap (λ (x : ℕ). get_or (parts ++ map sorts kinds) x nil) (let e : j + 39 ≡ 39 + j = omega arith in e)
    ∙ lib.Seq.get_or-append-add parts (map sorts kinds) j nil
    ∙ get_d_any (map sorts kinds) j nil (sorts lock) h
    ∙ get_or-map sorts kinds j lock

-- behind the head, with one level less, the row of its kind
pub stmt_go : (ws ns : List ℕ) (n left at : ℕ) {r : Step} → (left ≡ 0 → ⊥) → at < length ws → 64 ≤ kind_of (get_or ws at 0) → kind_of (get_or ws at 0) < 118 → r ≡ step_of (row_at ws ns n (expr_at ws (strings ns n) (left - 1)) (stmt_at ws ns n (left - 1)) (row_of (kind_of (get_or ws at 0) - 64 + 39)) (at + 1)) → r ≡ step_of (stmt_at ws ns n left at)
unfolding stmt_at rest_at bind
stmt_go ws ns n zero at z a b c h = absurd (z refl)
stmt_go ws ns n (suc d) at {r} z a b c h =
    let q : row_of (kind_of (get_or ws at 0) - 64 + 39) ≡ sorts (kind_at (kind_of (get_or ws at 0) - 64)) = row_kind (kind_of (get_or ws at 0) - 64) (omega arith) in
    rw (head_ok ws at a b c) (last (Stmt _ _) _ (rw (sub-one, q) at h))
