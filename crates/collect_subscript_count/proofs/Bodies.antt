-- A body, statement by statement: what the notes say of a name after each, and of a blank table after all. Assumes nothing.
use Prim.Native.Nat.{ℕ, zero, suc, ◌+◌, ◌-◌, ◌*◌, ◌<◌, ◌≤◌}
use native.Mathlib.Omega.{arith}
use mathlib.Core.Path.{◌≡◌, refl, sym, ap, subst, ◌∙◌}
use mathlib.Core.Bool.{Bool, true, false, false≢true}
use mathlib.Core.List.{List}
use mathlib.Core.Option.{Option, none as nothing}
use lib.ListN.{length, get_or, replicate}
use Rattle.base_words.specs.Word.{pay_of}
use Rattle.tree_expr.specs.Expr.{Expr}
use Rattle.tree_stmt.specs.Sorts.{stmt, nil, ◌&◌, body}
use Rattle.tree_stmt.specs.Tree.{one, row, rows, Tree, done, cons, none, more, count}
use Rattle.tree_stmt.specs.Stands.{Stands, SomeTree}
use Rattle.tree_stmt.specs.Memo.{zero_at}
use Rattle.tree_stmt.proofs.Nodes.{cons_last, in_list, in_more}
use Rattle.collect_subscript_count.specs.Subscripts.{or_else, subscript_count}
use Rattle.collect_subscript_count.specs.Notes.{Mark, free, taken, used, mark_of, room, mark_at, Noted, Blank}
use Rattle.collect_subscript_count.specs.Code.{Marks, NotesStmt, Told}
use Rattle.collect_subscript_count.proofs.Marks.{noted_as, noted_not, noted_wide, noted_join, used_noted}
use Rattle.collect_subscript_count.proofs.Table.{room_there}
use Rattle.collect_subscript_count.proofs.Expressions.{or_else_assoc, or_else_none}
use Rattle.collect_subscript_count.proofs.ByKind.{used_in}

-- ---- a table's marks

-- room is a matter of the length alone
same_room : (base x : ℕ) (t t₀ : List ℕ) → length t ≡ length t₀ → room base t x ≡ room base t₀ x
unfolding room
same_room base x t t₀ q = rw q refl

-- in a blank table every mark that has room is free
blank_free : (base x : ℕ) {t : List ℕ} → Blank t → room base t x ≡ true → mark_at base t x ≡ free
unfolding mark_at mark_of
blank_free base x {t} B q = rw (q, B.zero_at (2 * (x - base) + 1)) refl

is_taken : Mark → Bool
is_taken free = false
is_taken (taken p c) = true

mark_taken : (p c : ℕ) → (c ≡ 0 → ⊥) → is_taken (mark_of p c) ≡ true
unfolding mark_of is_taken
mark_taken p zero z = absurd (z refl)
mark_taken p (suc c) z = refl

-- a table of two words has room for its first name
pub two_room : (name : ℕ) (t : List ℕ) → length t ≡ 2 → room name t name ≡ true
two_room name t q = room_there name t name (omega arith) (omega (arith, q))

-- where both words are 0, the mark is free
pub two_free : (name : ℕ) → mark_at name (replicate {A = ℕ} 2 0) name ≡ free
two_free name = blank_free name name (record { zero_at = λ i. zero_at 2 i }) (two_room name (replicate {A = ℕ} 2 0) refl)

-- where the second word isn't 0, the mark is taken
pub two_taken : (name : ℕ) (t : List ℕ) → length t ≡ 2 → (get_or t 1 0 ≡ 0 → ⊥) → mark_at name t name ≡ free → ⊥
unfolding mark_at is_taken
two_taken name t q z e =
    let i : 2 * (name - name) + 1 ≡ 1 = omega arith in
    let r : mark_at name t name ≡ mark_of (get_or t (2 * (name - name)) 0) (get_or t (2 * (name - name) + 1) 0) = rw (two_room name t q) refl in
    let y : get_or t (2 * (name - name) + 1) 0 ≡ 0 → ⊥ = λ w. z (ap (λ (j : ℕ). get_or t j 0) (sym i) ∙ w) in
    false≢true (ap is_taken (sym e ∙ r) ∙ mark_taken (get_or t (2 * (name - name)) 0) (get_or t (2 * (name - name) + 1) 0) y)

-- ---- a row of a body is one statement

in_row : {ws : List ℕ} {at next : ℕ} {before after : Marks} → NotesStmt ws at before after next → (ns : List ℕ) (n : ℕ) (r : Tree Expr (row (stmt & nil))) (end : ℕ) → Stands ws ns n at r end → ((x : ℕ) → Noted at end (subscript_count used_in x r) (before x) (after x)) × (next ≡ end)
unfolding subscript_count
in_row S ns n (cons v done) end t =
    let g = S.gives ns n v end (cons_last t) in
    (λ x. noted_as (sym (or_else_none (subscript_count used_in x v))) (g.0 x), g.1)

row_some : {ws : List ℕ} {at : ℕ} → SomeTree (row (stmt & nil)) ws at → SomeTree (one stmt) ws at
row_some {ws} {at} A = go A.tree A.stands
  where
    go : (r : Tree Expr (row (stmt & nil))) → Stands ws A.names A.strings at r A.end → SomeTree (one stmt) ws at
    go (cons v done) t = record { names = A.names; strings = A.strings; tree = v; end = A.end; stands = cons_last t }

-- ---- the statements of a body

-- some statements are left; the first uses in those before them are noted
record Left (ws ns : List ℕ) (n : ℕ) (rs : Tree Expr (rows (stmt & nil))) (at end a i : ℕ) (before now : Marks) : Type 0 where
  left : Tree Expr (rows (stmt & nil))
  there : Stands ws ns n a left end
  few : count left + i ≡ count rs
  from : at ≤ a
  seen : ℕ → Option ℕ
  is : (x : ℕ) → subscript_count used_in x rs ≡ or_else (seen x) (subscript_count used_in x left)
  marks : (x : ℕ) → Noted at a (seen x) (before x) (now x)

-- i of c statements walked, up to a
pub record BodyRead (ws : List ℕ) (at c : ℕ) (before now : Marks) (a i : ℕ) : Type 0 where
  all : c ≡ pay_of (get_or ws at 0)
  gives : (ns : List ℕ) (n : ℕ) (rs : Tree Expr (rows (stmt & nil))) (end : ℕ) → Stands ws ns n (at + 1) rs end → count rs ≡ pay_of (get_or ws at 0) → Left ws ns n rs (at + 1) end a i before now

-- none is walked
pub body_start : (ws : List ℕ) (at : ℕ) (before : Marks) → BodyRead ws at (pay_of (get_or ws at 0)) before before (at + 1) 0
unfolding or_else
body_start ws at before = record { all = refl; gives = λ ns n rs end s c. record { left = rs; there = s; few = omega arith; from = omega arith; seen = λ x. nothing; is = λ x. refl; marks = λ x. noted_not (at + 1) (at + 1) (before x) } }

in_more_rows : (x : ℕ) {rs : Tree Expr (rows (stmt & nil))} (r : Tree Expr (row (stmt & nil))) (t : Tree Expr (rows (stmt & nil))) → rs ≡ more r t → subscript_count used_in x rs ≡ or_else (subscript_count used_in x r) (subscript_count used_in x t)
unfolding subscript_count
in_more_rows x r t e = ap (λ (z : Tree Expr (rows (stmt & nil))). subscript_count used_in x z) e

-- a mark that is taken says the first of its use and any other
taken_first : (m : Mark) → (m ≡ free → ⊥) → (b : Option ℕ) → used m ≡ or_else (used m) b
unfolding used or_else
taken_first free z b = absurd (z refl)
taken_first (taken p c) z b = refl

-- a mark that was free says what was seen
seen_is : {ws ns : List ℕ} {n : ℕ} {rs : Tree Expr (rows (stmt & nil))} {at end a i : ℕ} {before now : Marks} (L : Left ws ns n rs at end a i before now) (x : ℕ) → before x ≡ free → used (now x) ≡ L.seen x
seen_is {at = at} {a = a} {now = now} L x q = used_noted (subst (λ (m : Mark). Noted at a (L.seen x) m (now x)) q (L.marks x))

module _ {ws : List ℕ} {at c : ℕ} {before now : Marks} {a i : ℕ} (R : BodyRead ws at c before now a i) where
  -- the next statement stands at a
  pub body_next : SomeTree (one body) ws at → i < c → SomeTree (one stmt) ws a
  body_next A h =
      let I = in_list ws A.names A.strings A.stands in
      let L = R.gives A.names A.strings I.items A.end I.there I.counted in
      let M = in_more ws A.names A.strings (omega (arith, L.few, I.counted, R.all)) L.there in
      row_some (record { names = A.names; strings = A.strings; tree = M.head; end = M.mid; stands = M.there })

  -- one more walked
  pub body_step : {after : Marks} {a' : ℕ} → i < c → NotesStmt ws a now after a' → BodyRead ws at c before after a' (i + 1)
  body_step {after} {a'} h S = record {
    all = R.all;
    gives = λ ns n rs end s q.
        let L = R.gives ns n rs end s q in
        let M = in_more ws ns n (omega (arith, L.few, q, R.all)) L.there in
        let D = in_row S ns n M.head M.mid M.there in
        let t = M.there in
        let g : a ≤ a' = omega (arith, D.1, t.wrote.span) in
        record {
          left = M.tail;
          there = rw D.1 M.next;
          few = omega (arith, L.few, M.counted);
          from = omega (arith, L.from, g);
          seen = λ x. or_else (L.seen x) (subscript_count used_in x M.head);
          is = λ x.
              L.is x
              ∙ ap (or_else (L.seen x)) (in_more_rows x M.head M.tail M.is)
              ∙ sym (or_else_assoc (L.seen x) (subscript_count used_in x M.head) (subscript_count used_in x M.tail));
          marks = λ x. noted_join L.from g (L.marks x) (noted_wide (omega arith) (omega (arith, D.1)) (D.0 x));
        };
  }

  -- a mark that was free and is taken says the body's first use
  pub body_found : (x : ℕ) → before x ≡ free → (now x ≡ free → ⊥) → (ns : List ℕ) (n : ℕ) (v : Tree Expr (one body)) (end : ℕ) → Stands ws ns n at v end → used (now x) ≡ subscript_count used_in x v
  unfolding subscript_count
  body_found x q z ns n v end s =
      let I = in_list ws ns n s in
      let L = R.gives ns n I.items end I.there I.counted in
      let o = subscript_count used_in x L.left in
      taken_first (now x) z o
      ∙ ap (λ (u : Option ℕ). or_else u o) (seen_is L x q)
      ∙ sym (L.is x)
      ∙ ap (λ (w : Tree Expr (one body)). subscript_count used_in x w) (sym I.is)

  -- all are walked: a mark that was free says the body's first use
  pub body_done : c ≤ i → (x : ℕ) → before x ≡ free → (ns : List ℕ) (n : ℕ) (v : Tree Expr (one body)) (end : ℕ) → Stands ws ns n at v end → used (now x) ≡ subscript_count used_in x v
  unfolding subscript_count count
  body_done h x q ns n v end s =
      let I = in_list ws ns n s in
      let L = R.gives ns n I.items end I.there I.counted in
      seen_is L x q
      ∙ sym (or_else_none (L.seen x))
      ∙ ap (or_else (L.seen x)) (go L.left (omega (arith, L.few, I.counted, R.all)))
      ∙ sym (L.is x)
      ∙ ap (λ (w : Tree Expr (one body)). subscript_count used_in x w) (sym I.is)
    where
      go : (left : Tree Expr (rows (stmt & nil))) → count left ≡ 0 → nothing ≡ subscript_count used_in x left
      go none z = refl
      go (more r rs) z = absurd (omega arith)

-- from a blank table on
pub body_told : {ws : List ℕ} {at c base a i : ℕ} {t₀ t : List ℕ} → length t ≡ length t₀ → Blank t₀ → BodyRead ws at c (mark_at base t₀) (mark_at base t) a i → c ≤ i → Told ws at base t
body_told {base = base} {t₀ = t₀} {t} q B R h = record { gives = λ ns n v end s x r. body_done R h x (blank_free base x B (sym (same_room base x t t₀ q) ∙ r)) ns n v end s }
