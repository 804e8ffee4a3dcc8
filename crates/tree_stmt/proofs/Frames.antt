-- Laws of frames: their next field, their next row, and the turns that leave them. Assumes nothing.
use Prim.Native.Nat.{ℕ, zero, suc, ◌+◌, ◌-◌, ◌*◌, ◌/◌, ◌%◌, ◌<◌, ◌≤◌}
use mathlib.Core.Path.{◌≡◌, refl, sym, ap, subst, ◌∙◌}
use mathlib.Core.List.{List, [], ◌++◌}
use mathlib.Core.Logic.{◌⊎◌}
use native.Mathlib.Omega.{arith}
use lib.ListN.{length, get_or, get_or-map}
use Rattle.base_words.specs.Word.{pay_of}
use Rattle.tree_expr.specs.Got.{Got, got, wrong, deep, bind}
use Rattle.tree_expr.specs.Reader.{leaf_at, name_at, exprs_at, list_at, body_at, expr_at}
use Rattle.tree_expr.specs.Answer.{step_of, then, Step}
use Rattle.tree_expr.specs.declared.Cursor.{Cursor}
use Rattle.tree_expr.proofs.Laws.{name_got}
use Rattle.tree_expr.proofs.Steps.{step_map, read, on, leaf_read, exprs_none, exprs_more, body_18, body_19, body_20, body_22, body_23}
use Rattle.tree_stmt.specs.Sorts.{Sort, expr, stmt, many, group, opt, Sorts, nil, ◌&◌}
use Rattle.tree_stmt.specs.Tree.{strings}
use Rattle.tree_stmt.specs.Codes.{part_codes, stmt_codes, codes, pack, parts, all_rows, row_of, sort_at, unpack, sorts_of, unpacked}
use Rattle.tree_stmt.specs.Reader.{word_at, rows_at, field_at, row_at, stmt_at, program_at}
use Rattle.tree_stmt.specs.Frames.{Look, told_of, rest_of, again_of, field_step, frame_at, Goes, past, into, failed, Turned, same}
use Rattle.std.specs.Result.{IsErrAnd}
use Rattle.std.proofs.lemmas.Result.{err_from_is_err_and}
use Rattle.tree_expr.specs.declared.Misread.{Misread}
use Rattle.tree_stmt.specs.declared.Frame.{Frame}
use Rattle.tree_stmt.specs.declared.Turn.TheVariants.{Into}
use Rattle.tree_stmt.proofs.Steps.{then_read, is_own, row_more, row_one, rows_none, rows_more, expr_arm, leaf_arm, stmt_arm, many_go}
use Rattle.std.specs.Prelude.{Ok, Err}
use Rattle.tree_expr.specs.declared.Misread.TheVariants.{Wrong, Deep}

-- ---- fields in one number

unpack_any : (j k x : ℕ) → x ≤ j → x ≤ k → unpack j x ≡ unpack k x
unfolding unpack
unpack_any zero zero x a b = refl
unpack_any zero (suc k) zero a b = refl
unpack_any zero (suc k) (suc x) a b = absurd (omega arith)
unpack_any (suc j) zero zero a b = refl
unpack_any (suc j) zero (suc x) a b = absurd (omega arith)
unpack_any (suc j) (suc k) zero a b = refl
unpack_any (suc j) (suc k) (suc x) a b = ap (λ (ss : Sorts). sort_at (suc x % 256) & ss) (unpack_any j k (suc x / 256) (omega arith) (omega arith))

-- the first field is the lowest byte's, the others are the rest's
pub sorts_next : (x : ℕ) → (x ≡ 0 → ⊥) → sorts_of x ≡ sort_at (x % 256) & sorts_of (x / 256)
unfolding unpack
sorts_next zero h = absurd (h refl)
sorts_next (suc x) h = ap (λ (ss : Sorts). sort_at (suc x % 256) & ss) (unpack_any x (suc x / 256) (suc x / 256) (omega arith) (omega arith))

-- 0 is no field
pub sorts_none : {x : ℕ} → x ≡ 0 → sorts_of x ≡ nil
unfolding unpack
sorts_none e = ap (λ (x : ℕ). unpack x x) e

-- a row's numbers, joined, are its fields
pub sorts_packed : (r : ℕ) → sorts_of (pack (codes r)) ≡ row_of r
unfolding row_of codes unpack
sorts_packed r = sym (get_or-map (λ (l : List ℕ). sorts_of (pack l)) (part_codes ++ stmt_codes) r []) ∙ ap (λ (l : List Sorts). get_or l r nil) unpacked

-- ---- one answer after another

-- three answers in turn, taken together either way
pub then_then : (s : Step) (f g : ℕ → Step) → then (then s f) g ≡ then s (λ m. then (f m) g)
unfolding then
then_then (Ok c) f g = refl
then_then (Err (Wrong p)) f g = refl
then_then (Err (Deep p)) f g = refl

-- what follows may be replaced where it answers the same
pub then_same : (s : Step) (f g : ℕ → Step) → ((m : ℕ) → f m ≡ g m) → then s f ≡ then s g
unfolding then
then_same (Ok c) f g h = h c.at
then_same (Err (Wrong p)) f g h = refl
then_same (Err (Deep p)) f g h = refl

-- where the second reads nothing
pub then_none : (s : Step) (f : ℕ → Step) → ((m : ℕ) → f m ≡ Ok (record { at = m })) → then s f ≡ s
then_none s f h = then_same s f _ h ∙ then_read s

bind_same : {A B C : Type 0} (p : Got A) (k : A → ℕ → Got B) (k' : A → ℕ → Got C) → ((a : A) (m : ℕ) → step_of (k a m) ≡ step_of (k' a m)) → step_of (bind p k) ≡ step_of (bind p k')
unfolding bind step_of
bind_same (got a m) k k' h = h a m
bind_same (wrong p) k k' h = refl
bind_same (deep p) k k' h = refl

module _ (ws ns : List ℕ) (n : ℕ) where
  -- the answer to a row, and to so many
  abbrev row_step : ℕ → Sorts → ℕ → Step
  row_step left ss at = step_of (row_at ws ns n (expr_at ws (strings ns n) left) (stmt_at ws ns n left) ss at)

  abbrev rows_step : ℕ → ℕ → ℕ → ℕ → Step
  rows_step left r count at = step_of (rows_at ws ns n (λ x. row_at ws ns n (expr_at ws (strings ns n) left) (stmt_at ws ns n left) (row_of r) x) count at)

  -- no field is left: the rows
  pub frame_rows : (f : Frame) (at : ℕ) → f.fields ≡ 0 → frame_at ws ns n f at ≡ rows_step f.left f.row f.times at
  unfolding frame_at row_at step_of then
  frame_rows f at z = ap (λ (ss : Sorts). then (row_step f.left ss at) (λ m. rows_step f.left f.row f.times m)) (sorts_none z)

  -- no field and no row is left: nothing is read
  pub frame_end : (f : Frame) (at : ℕ) → f.fields ≡ 0 → f.times ≡ 0 → frame_at ws ns n f at ≡ Ok (record { at = at })
  frame_end f at z e = frame_rows f at z ∙ rows_none ws ns n _ f.times (record { at = at }) (omega arith)

  -- no field is left but a row is: its fields are next
  pub frame_again : (f : Frame) (at : ℕ) → f.fields ≡ 0 → 0 < f.times → frame_at ws ns n f at ≡ frame_at ws ns n (again_of f) at
  unfolding frame_at
  frame_again f at z h =
      frame_rows f at z
      ∙ rows_more ws ns n _ f.times at h
      ∙ ap (λ (ss : Sorts). then (row_step f.left ss at) (λ m. rows_step f.left f.row (f.times - 1) m)) (sym (sorts_packed f.row))

  -- the next field, and then the rest
  pub frame_next : (f : Frame) (at : ℕ) → (f.fields ≡ 0 → ⊥) → frame_at ws ns n f at ≡ then (field_step ws ns n f.left (sort_at (f.fields % 256)) at) (λ m. frame_at ws ns n (rest_of f) m)
  unfolding frame_at
  frame_next f at z =
      ap (λ (ss : Sorts). then (row_step f.left ss at) (λ m. rows_step f.left f.row f.times m)) (sorts_next f.fields z)
      ∙ ap (λ (s : Step). then s (λ m. rows_step f.left f.row f.times m)) (row_more ws ns n _ _ (sort_at (f.fields % 256)) (sorts_of (f.fields / 256)) at)
      ∙ then_then _ _ _

  -- one row
  pub frame_row : (r left at : ℕ) → frame_at ws ns n (record { fields = 0; row = r; times = 1; left = left }) at ≡ row_step left (row_of r) at
  frame_row r left at =
      frame_rows (record { fields = 0; row = r; times = 1; left = left }) at refl
      ∙ rows_more ws ns n _ 1 at (omega arith)
      ∙ then_none _ _ (λ m. rows_none ws ns n _ 0 (record { at = m }) (omega arith))

  -- one field, or two
  pub frame_one : (k left at : ℕ) → 0 < k → k < 256 → frame_at ws ns n (record { fields = k; row = 0; times = 0; left = left }) at ≡ field_step ws ns n left (sort_at k) at
  frame_one k left at a b =
      let z : k / 256 ≡ 0 = omega arith in
      let e : k % 256 ≡ k = omega arith in
      frame_next (record { fields = k; row = 0; times = 0; left = left }) at (λ y. omega (arith, a, y))
      ∙ then_none _ _ (λ m. frame_end _ m z refl)
      ∙ ap (λ (x : ℕ). field_step ws ns n left (sort_at x) at) e

  -- two fields
  pub frame_two : (k j left at : ℕ) → k < 256 → 0 < j → j < 256 → frame_at ws ns n (record { fields = k + 256 * j; row = 0; times = 0; left = left }) at ≡ then (field_step ws ns n left (sort_at k) at) (λ m. field_step ws ns n left (sort_at j) m)
  frame_two k j left at a b d =
      let z : (k + 256 * j) / 256 ≡ j = omega arith in
      let e : (k + 256 * j) % 256 ≡ k = omega arith in
      frame_next (record { fields = k + 256 * j; row = 0; times = 0; left = left }) at (λ y. omega (arith, b, y))
      ∙ ap (λ (x : ℕ). then (field_step ws ns n left (sort_at x) at) (λ m. frame_at ws ns n (record { fields = (k + 256 * j) / 256; row = 0; times = 0; left = left }) m)) e
      ∙ then_same _ _ _ (λ m. ap (λ (x : ℕ). frame_at ws ns n (record { fields = x; row = 0; times = 0; left = left }) m) z ∙ frame_one j left m b d)

  -- the number 9 is an expression, 1 a name
  field_9 : (left at : ℕ) → field_step ws ns n left (sort_at 9) at ≡ step_of (expr_at ws (strings ns n) left at)
  field_9 left at = ap (λ (s : Sort). field_step ws ns n left s at) (is_own 9 refl refl) ∙ sym (expr_arm ws ns n _ _ at refl)

  field_1 : (left at : ℕ) → field_step ws ns n left (sort_at 1) at ≡ step_of (name_at ws ns at)
  unfolding word_at name_at
  field_1 left at = sym (leaf_arm ws ns n _ _ 1 _ at (is_own 1 refl refl) refl)

  -- the field 9 is an expression
  pub frame_9 : (left at : ℕ) → frame_at ws ns n (record { fields = 9; row = 0; times = 0; left = left }) at ≡ step_of (expr_at ws (strings ns n) left at)
  frame_9 left at = frame_one 9 left at (omega arith) (omega arith) ∙ field_9 left at

  -- 9 and 9 are two expressions
  pub frame_99 : (left at : ℕ) → frame_at ws ns n (record { fields = 2313; row = 0; times = 0; left = left }) at ≡ then (step_of (expr_at ws (strings ns n) left at)) (λ m. step_of (expr_at ws (strings ns n) left m))
  frame_99 left at =
      frame_two 9 9 left at (omega arith) (omega arith) (omega arith)
      ∙ then_same _ _ _ (λ m. field_9 left m)
      ∙ ap (λ (s : Step). then s (λ m. step_of (expr_at ws (strings ns n) left m))) (field_9 left at)

  -- 9 and 1 are an expression, then a name
  pub frame_91 : (left at : ℕ) → frame_at ws ns n (record { fields = 265; row = 0; times = 0; left = left }) at ≡ then (step_of (expr_at ws (strings ns n) left at)) (λ m. step_of (name_at ws ns m))
  frame_91 left at =
      frame_two 9 1 left at (omega arith) (omega arith) (omega arith)
      ∙ then_same _ _ _ (λ m. field_1 left m)
      ∙ ap (λ (s : Step). then s (λ m. step_of (name_at ws ns m))) (field_9 left at)

  -- a list of expressions is a list of the rows number 0
  row_0 : (left at : ℕ) → step_of (expr_at ws (strings ns n) left at) ≡ row_step left (row_of 0) at
  unfolding row_of all_rows parts
  row_0 left at = row_one ws ns n _ _ expr at (expr_arm ws ns n _ _ at refl)

  exprs_rows : (left count at : ℕ) → step_of (exprs_at ws (strings ns n) (expr_at ws (strings ns n) left) count at) ≡ rows_step left 0 count at
  exprs_rows left zero at = exprs_none ws (strings ns n) _ 0 (record { at = at }) (omega arith) ∙ sym (rows_none ws ns n _ 0 (record { at = at }) (omega arith))
  exprs_rows left (suc k) at =
      let h : 0 < suc k = omega arith in
      let e : suc k - 1 ≡ k = omega arith in
      exprs_more ws (strings ns n) _ (suc k) at h
      ∙ ap (λ (s : Step). then s (λ m. step_of (exprs_at ws (strings ns n) (expr_at ws (strings ns n) left) (suc k - 1) m))) (row_0 left at)
      ∙ then_same _ _ _ (λ m. ap (λ (x : ℕ). step_of (exprs_at ws (strings ns n) (expr_at ws (strings ns n) left) x m)) e ∙ exprs_rows left k m ∙ ap (λ (x : ℕ). rows_step left 0 x m) (sym e))
      ∙ sym (rows_more ws ns n _ (suc k) at h)

  -- a list of expressions is the field of a list of row 0
  pub list_is : (left at : ℕ) → step_of (list_at ws (strings ns n) (expr_at ws (strings ns n) left) at) ≡ field_step ws ns n left (many (row_of 0)) at
  unfolding list_at field_at
  list_is left at = bind_same _ _ _ (λ c m. exprs_rows left c m ∙ sym (step_map _ _))

  -- ---- turns

  -- the turn that an answer is tells this answer
  pub told_goes : {at : ℕ} (s : Step) {S : Step} {t : Look} → s ≡ S → t ≡ told_of s → Goes ws ns n at S t
  unfolding told_of
  told_goes {at} (Ok c) {S} e q = subst (λ (x : Look). Goes ws ns n at S x) (sym q) (past (sym e))
  told_goes {at} (Err m) {S} e q = subst (λ (x : Look). Goes ws ns n at S x) (sym q) (failed (sym e))

  -- a failure that a `?` hands on
  pub failed_goes : {at : ℕ} {S : Step} {r : Look} {m : Misread} → S ≡ Err m → IsErrAnd r (λ x. x ≡ m) → Goes ws ns n at S r
  failed_goes {at} {S} {r} e h =
      let p = err_from_is_err_and r h in
      subst (λ (x : Look). Goes ws ns n at S x) (sym p.1) (failed (e ∙ ap Err (sym p.2)))

  -- an answer that goes on, where the one before it stopped at a place
  pub goes_same : {at : ℕ} {s S : Step} {t : Look} → S ≡ s → Goes ws ns n at s t → Goes ws ns n at S t
  goes_same e (past q) = past (e ∙ q)
  goes_same e (into q a b c d) = into (e ∙ q) a b c d
  goes_same e (failed q) = failed (e ∙ q)

  -- from a place before
  pub goes_before : {at m : ℕ} {s : Step} {t : Look} → at ≤ m → Goes ws ns n m s t → Goes ws ns n at s t
  goes_before h (past q) = past q
  goes_before h (into q a b c d) = into q (omega arith) b c d
  goes_before h (failed q) = failed q

  -- one row behind a word
  pub row_goes : {f : Frame} {r left at : ℕ} {c : Cursor} {s : Step} → f ≡ record { fields = 0; row = r; times = 1; left = left } → s ≡ row_step left (row_of r) c.at → at < c.at → c.at ≤ length ws → Goes ws ns n at s (Ok (Into c f))
  row_goes {f} {r} {left} {at} {c} {s} q e a b = subst (λ (x : Frame). Goes ws ns n at s (Ok (Into c x))) (sym q) (into (e ∙ sym (frame_row r left c.at)) a b (omega arith) (omega arith))

  -- fields behind a word
  pub fields_go : {f : Frame} {k left at : ℕ} {c : Cursor} {s : Step} → f ≡ record { fields = k; row = 0; times = 0; left = left } → s ≡ frame_at ws ns n (record { fields = k; row = 0; times = 0; left = left }) c.at → at < c.at → c.at ≤ length ws → k < 4096 → Goes ws ns n at s (Ok (Into c f))
  fields_go {f} {k} {left} {at} {c} {s} q e a b l = subst (λ (x : Frame). Goes ws ns n at s (Ok (Into c x))) (sym q) (into e a b l (omega arith))

  -- one row at the same place
  pub row_same : {f : Frame} {r left at : ℕ} {s : Sort} → f ≡ record { fields = 0; row = r; times = 1; left = left } → (s ≡ opt (row_of r)) ⊎ (s ≡ group (row_of r)) → field_step ws ns n left s at ≡ row_step left (row_of r) at → Turned ws ns n left at s (Ok (Into (record { at = at }) f))
  row_same {f} {r} {left} {at} {s} q k e = subst (λ (x : Frame). Turned ws ns n left at s (Ok (Into (record { at = at }) x))) (sym q) (same k (e ∙ sym (frame_row r left at)))

  -- a field whose number is k
  pub look_arm : (k : ℕ) {s : Sort} {left at : ℕ} {t : Look} → sort_at k ≡ s → Turned ws ns n left at s t → Turned ws ns n left at (sort_at k) t
  look_arm k {s} {left} {at} {t} q h = subst (λ (x : Sort). Turned ws ns n left at x t) (sym q) h

  -- a list's head
  pub list_goes : (row left at : ℕ) {s : Step} {c : Cursor} → s ≡ step_of (leaf_at ws 1 16777216 at) → s ≡ Ok c → Goes ws ns n at (field_step ws ns n left (many (row_of row)) at) (Ok (Into c (record { fields = 0; row = row; times = pay_of (get_or ws at 0); left = left })))
  list_goes row left at e q =
      let h = leaf_read e q in
      into (sym (many_go ws ns n _ _ (row_of row) at e q refl) ∙ sym (frame_rows (record { fields = 0; row = row; times = pay_of (get_or ws at 0); left = left }) _ refl)) (omega (arith, h.to)) (omega (arith, h.inside, h.to)) (omega arith) (omega arith)

  -- a name, then a list of expressions
  pub call_goes : (left at : ℕ) {s : Step} {c : Cursor} {t : Look} → s ≡ step_of (name_at ws ns at) → s ≡ Ok c → Goes ws ns n c.at (field_step ws ns n left (many (row_of 0)) c.at) t → Goes ws ns n at (then (step_of (name_at ws ns at)) (λ m. step_of (list_at ws (strings ns n) (expr_at ws (strings ns n) left) m))) t
  call_goes left at {s} {c} e q h =
      let v = read (name_at ws ns at) e q in
      goes_before (omega (arith, (name_got v.1).to)) (goes_same (sym (on _ e q (sym (list_is left c.at)))) h)

  -- ---- what follows an expression's head of the kind k

  module _ (left k m : ℕ) {t : Look} where
    -- an element or a call: a name and a list
    pub call_body : (k ≡ 18) ⊎ (k ≡ 21) → Goes ws ns n m (then (step_of (name_at ws ns m)) (λ m'. step_of (list_at ws (strings ns n) (expr_at ws (strings ns n) left) m'))) t → Goes ws ns n m (step_of (body_at ws (strings ns n) (expr_at ws (strings ns n) left) k m)) t
    call_body e h = goes_same (sym (body_18 ws (strings ns n) _ k m e refl)) h

    -- a unary operator, then the field 9
    pub unary_body : k ≡ 19 → Goes ws ns n m (then (step_of (leaf_at ws 9 2 m)) (λ m'. frame_at ws ns n (record { fields = 9; row = 0; times = 0; left = left }) m')) t → Goes ws ns n m (step_of (body_at ws (strings ns n) (expr_at ws (strings ns n) left) k m)) t
    unary_body e h = goes_same (sym (body_19 ws (strings ns n) _ k m e refl) ∙ then_same _ _ _ (λ m'. sym (frame_9 left m'))) h

    -- a binary operator, then the fields 9 and 9
    pub binary_body : k ≡ 20 → Goes ws ns n m (then (step_of (leaf_at ws 9 18 m)) (λ m'. frame_at ws ns n (record { fields = 2313; row = 0; times = 0; left = left }) m')) t → Goes ws ns n m (step_of (body_at ws (strings ns n) (expr_at ws (strings ns n) left) k m)) t
    binary_body e h = goes_same (sym (body_20 ws (strings ns n) _ k m e refl) ∙ then_same _ _ _ (λ m'. sym (frame_99 left m'))) h

  -- a field: the fields 9 and 1
  pub field_body : (left k : ℕ) {at : ℕ} {c : Cursor} {f : Frame} → k ≡ 22 → f ≡ record { fields = 265; row = 0; times = 0; left = left } → at < c.at → c.at ≤ length ws → Goes ws ns n at (step_of (body_at ws (strings ns n) (expr_at ws (strings ns n) left) k c.at)) (Ok (Into c f))
  field_body left k {at} {c} e q a b = fields_go q (sym (body_22 ws (strings ns n) _ k c.at e refl) ∙ sym (frame_91 left c.at)) a b (omega arith)

  -- parentheses: the field 9
  pub paren_body : (left k : ℕ) {at : ℕ} {c : Cursor} {f : Frame} → k ≡ 23 → f ≡ record { fields = 9; row = 0; times = 0; left = left } → at < c.at → c.at ≤ length ws → Goes ws ns n at (step_of (body_at ws (strings ns n) (expr_at ws (strings ns n) left) k c.at)) (Ok (Into c f))
  paren_body left k {at} {c} e q a b = fields_go q (sym (body_23 ws (strings ns n) _ k c.at e refl) ∙ sym (frame_9 left c.at)) a b (omega arith)

-- ---- the three that are asked from outside

-- the one field of a frame
one_field : (ws ns : List ℕ) (n k left at : ℕ) {f : Frame} {s : Step} → 0 < k → k < 256 → s ≡ frame_at ws ns n f at → f ≡ record { fields = k; row = 0; times = 0; left = left } → s ≡ field_step ws ns n left (sort_at k) at
one_field ws ns n k left at a b e q = e ∙ ap (λ (x : Frame). frame_at ws ns n x at) q ∙ frame_one ws ns n k left at a b

-- a statement is the frame of the one field 10
pub stmt_is : (ws ns : List ℕ) (n left at : ℕ) {f : Frame} {s : Step} → s ≡ frame_at ws ns n f at → f ≡ record { fields = 10; row = 0; times = 0; left = left } → s ≡ step_of (stmt_at ws ns n left at)
stmt_is ws ns n left at e q =
    one_field ws ns n 10 left at (omega arith) (omega arith) e q
    ∙ ap (λ (x : Sort). field_step ws ns n left x at) (is_own 10 refl refl)
    ∙ sym (stmt_arm ws ns n _ _ at refl)

-- a body is the list of the rows number 4
body_sort_lem : sort_at 68 ≡ many (stmt & nil)
unfolding sort_at row_of all_rows parts
body_sort_lem = refl

-- a list of statements is the frame of the one field 68
pub body_is : (ws ns : List ℕ) (n left at : ℕ) {f : Frame} {s : Step} → s ≡ frame_at ws ns n f at → f ≡ record { fields = 68; row = 0; times = 0; left = left } → s ≡ field_step ws ns n left (many (stmt & nil)) at
body_is ws ns n left at e q = one_field ws ns n 68 left at (omega arith) (omega arith) e q ∙ ap (λ (x : Sort). field_step ws ns n left x at) body_sort_lem

-- so is the program
pub program_is : (ws ns : List ℕ) (n : ℕ) {f : Frame} {s : Step} → s ≡ frame_at ws ns n f 0 → f ≡ record { fields = 68; row = 0; times = 0; left = 100 } → s ≡ step_of (program_at ws ns n)
unfolding program_at
program_is ws ns n e q = body_is ws ns n 100 0 e q
