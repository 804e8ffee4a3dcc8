-- What a memo of ends recalls is right, and it stays right with one end more; what is known of a field that was read. Assumes nothing.
use Prim.Native.Nat.{ℕ, ◌+◌, ◌*◌, ◌<◌, ◌≤◌}
use mathlib.Core.Path.{◌≡◌, refl, sym, ap, subst, ◌∙◌}
use mathlib.Core.List.{List}
use mathlib.Core.Logic.{◌≢◌}
use native.Mathlib.Omega.{arith}
use lib.ListN.{length, get_or, set, length-set}
use lib.Seq.{get_or-set_same, get_or-set_other}
use Rattle.tree_expr.specs.Expr.{Expr}
use Rattle.tree_expr.specs.Answer.{step_of, Step}
use Rattle.tree_expr.specs.declared.Cursor.{Cursor}
use Rattle.tree_expr.proofs.Steps.{read}
use Rattle.tree_stmt.specs.Sorts.{Sort, stmt}
use Rattle.tree_stmt.specs.Tree.{one, Tree, depth_t}
use Rattle.tree_stmt.specs.Stands.{Stands}
use Rattle.tree_stmt.specs.Reader.{stmt_at, field_at}
use Rattle.tree_stmt.specs.Codes.{sort_at}
use Rattle.tree_stmt.specs.Frames.{field_step}
use Rattle.tree_stmt.specs.Memo.{Remembers, EndsAt, Recalled, Remembered, Noted, Keeps, Past}
use Rattle.tree_stmt.proofs.Steps.{is_own, stmt_arm}
use Rattle.tree_stmt.proofs.Sound.{stmt_sound}
use Rattle.tree_stmt.proofs.Complete.{clear, completes, one_tree}
use Rattle.std.specs.Prelude.{Ok, Err}
use Rattle.tree_expr.specs.declared.Misread.{Misread}

-- the end that stands in a slot of that place
pub recalled_slot : (memo : List ℕ) (at i r : ℕ) → (get_or memo (2 * i) 0 ≡ at + 1) × (r ≡ get_or memo (2 * i + 1) 0) → Recalled memo at r
unfolding EndsAt
recalled_slot memo at i r h = record { gives = λ ws ns n R v e S. R.right i at h.0 v e S ∙ sym h.1 }

-- a slot that is written
module _ (memo : List ℕ) (at end i : ℕ) (h : 2 * i + 1 < length memo) where
  abbrev after : List ℕ
  after = set (set memo (2 * i) (at + 1)) (2 * i + 1) end

  first_word : get_or after (2 * i) 0 ≡ at + 1
  first_word = get_or-set_other (set memo (2 * i) (at + 1)) (2 * i + 1) (2 * i) end 0 (λ z. omega arith) ∙ get_or-set_same memo (2 * i) (at + 1) 0 (omega arith)

  second_word : get_or after (2 * i + 1) 0 ≡ end
  second_word = get_or-set_same (set memo (2 * i) (at + 1)) (2 * i + 1) end 0 (omega (arith, length-set memo (2 * i) (at + 1)))

  other_word : (j : ℕ) → j ≢ 2 * i → j ≢ 2 * i + 1 → get_or after j 0 ≡ get_or memo j 0
  other_word j p q = get_or-set_other (set memo (2 * i) (at + 1)) (2 * i + 1) j end 0 q ∙ get_or-set_other memo (2 * i) j (at + 1) 0 p

  same_slot : {ws ns : List ℕ} {n : ℕ} → EndsAt ws ns n at end → (j p : ℕ) → j ≡ i → get_or after (2 * j) 0 ≡ p + 1 → (v : Tree Expr (one stmt)) (e : ℕ) → Stands ws ns n p v e → e ≡ get_or after (2 * j + 1) 0
  unfolding EndsAt
  same_slot {ws} {ns} {n} E j p x q v e S =
      let q' : get_or after (2 * i) 0 ≡ p + 1 = subst (λ (k : ℕ). get_or after (2 * k) 0 ≡ p + 1) x q in
      let z : p ≡ at = omega (arith, first_word, q') in
      E v e (subst (λ (k : ℕ). Stands ws ns n k v e) z S) ∙ sym second_word ∙ ap (λ (k : ℕ). get_or after (2 * k + 1) 0) (sym x)

  other_slot : {ws ns : List ℕ} {n : ℕ} → Remembers ws ns n memo → (j p : ℕ) → j ≢ i → get_or after (2 * j) 0 ≡ p + 1 → (v : Tree Expr (one stmt)) (e : ℕ) → Stands ws ns n p v e → e ≡ get_or after (2 * j + 1) 0
  other_slot R j p x q v e S =
      R.right j p (sym (other_word (2 * j) (λ y. x (omega arith)) (λ y. omega arith)) ∙ q) v e S ∙ sym (other_word (2 * j + 1) (λ y. omega arith) (λ y. x (omega arith)))

  -- so is one with the end written into the slot
  pub remembered_slot : Remembered memo at end (set (set memo (2 * i) (at + 1)) (2 * i + 1) end)
  remembered_slot = record {
    gives = λ ws ns n R E. record {
      right = λ j p q v e S. elim (native.Mathlib.Decide.ℕ_discrete j i) [ yes x ↦ same_slot E j p x q v e S | no x ↦ other_slot R j p x q v e S ];
    };
  }

-- ---- what a reading notes

-- nothing noted
pub noted_none : {sort at end : ℕ} {memo : List ℕ} → Noted sort memo at end memo
noted_none = record { gives = λ ws ns n R E. R }

-- a statement that was read: whatever stands there ends at the answer's place
pub field_ends : (ws ns : List ℕ) (n left at sort : ℕ) {c : Cursor} → field_step ws ns n left (sort_at sort) at ≡ Ok c → sort ≡ 10 → EndsAt ws ns n at c.at
unfolding EndsAt clear
field_ends ws ns n left at sort {c} e q v end S =
    let f : Ok c ≡ step_of (stmt_at ws ns n left at) = sym e ∙ ap (λ (x : Sort). field_step ws ns n left x at) (is_own 10 q refl) ∙ sym (stmt_arm ws ns n _ _ at refl) in
    let g = read (stmt_at ws ns n left at) f refl in
    let F = stmt_sound ws ns n left at g.0 c.at g.1 in
    (one_tree ws ns n v g.0 at end c.at refl S.valid F.valid S.wrote F.wrote).1

-- nothing was read
pub keeps_none : {ws ns : List ℕ} {n : ℕ} {memo : List ℕ} → Keeps ws ns n memo memo
keeps_none = record { gives = λ R. R }

-- a reading, and then one end noted that is right
pub keeps_noted : {ws ns : List ℕ} {n sort at end : ℕ} {first before inner after : List ℕ} → Keeps ws ns n first before → Keeps ws ns n before inner → Noted sort inner at end after → (sort ≡ 10 → EndsAt ws ns n at end) → Keeps ws ns n first after
keeps_noted {ws} {ns} {n} p q m E = record { gives = λ R. m.gives ws ns n (q.gives (p.gives R)) E }

-- the memo in the loop: as long as at first, and right if it was
pub record Memo (ws ns : List ℕ) (n : ℕ) (first memo : List ℕ) : Type 0 where
  pub same : length memo ≡ length first
  pub keeps : Keeps ws ns n first memo

-- at first
pub memo_first : {ws ns : List ℕ} {n : ℕ} {memo : List ℕ} → Memo ws ns n memo memo
memo_first = record { same = refl; keeps = keeps_none }

-- a frame of the field was read, and its end noted
pub memo_call : (ws ns : List ℕ) (n left at sort : ℕ) {first before inner after : List ℕ} {c : Cursor} → field_step ws ns n left (sort_at sort) at ≡ Ok c → Memo ws ns n first before → Keeps ws ns n before inner → length inner ≡ length before → Noted sort inner at c.at after → length after ≡ length inner → Memo ws ns n first after
memo_call ws ns n left at sort e m p l d r = record { same = r ∙ l ∙ m.same; keeps = keeps_noted m.keeps p d (field_ends ws ns n left at sort e) }

-- the same where the frame could not be read
pub memo_failed : {ws ns : List ℕ} {n : ℕ} {first before inner : List ℕ} → Memo ws ns n first before → Keeps ws ns n before inner → length inner ≡ length before → Memo ws ns n first inner
memo_failed m p l = record { same = l ∙ m.same; keeps = record { gives = λ R. p.gives (m.keeps.gives R) } }

-- ---- the end of a statement

-- the end, recalled
pub past_recalled : {ws ns : List ℕ} {n : ℕ} {memo : List ℕ} {at r : ℕ} → Recalled memo at r → Past ws ns n memo at r
unfolding EndsAt
past_recalled {ws} {ns} {n} h = record { gives = λ R v end S d. sym (h.gives ws ns n R v end S) }

one_cursor : {c c' : Cursor} → ◌≡◌ {A = Step} (Ok c) (Ok c') → c ≡ c'
one_cursor q = cc

-- the end, read
module _ {ws ns : List ℕ} {n at : ℕ} (s : Step) (e : s ≡ step_of (stmt_at ws ns n 100 at)) where
  stmt_read : {v : Tree Expr (one stmt)} {end : ℕ} → Stands ws ns n at v end → depth_t v ≤ 100 → s ≡ Ok (record { at = end })
  unfolding step_of clear field_at
  stmt_read {v} {end} S d = e ∙ ap step_of (completes ws ns n v 100 at end refl d S.valid S.wrote)

  -- the statement was read: its end is the answer's place
  pub past_read : {memo : List ℕ} (c : Cursor) → s ≡ Ok c → Past ws ns n memo at c.at
  past_read c q = record { gives = λ R v end S d. ap Cursor.at (one_cursor (sym q ∙ stmt_read S d)) }

  -- it was not: no statement of at most 100 levels stands there, whatever the place that is given
  pub past_failed : {memo : List ℕ} {p : ℕ} {m : Misread} → s ≡ Err m → Past ws ns n memo at p
  past_failed q = record { gives = λ R v end S d. let r = stmt_read S d in cc }
