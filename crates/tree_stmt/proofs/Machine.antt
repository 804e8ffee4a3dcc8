-- The loop over frames: the frame in hand and those on the stack are together what was asked, and their weight falls with each turn. Assumes nothing.
use Prim.Native.Nat.{ℕ, zero, suc, ◌+◌, ◌-◌, ◌*◌, ◌/◌, ◌%◌, ◌<◌, ◌≤◌}
use mathlib.Core.Path.{◌≡◌, refl, sym, ap, subst, ◌∙◌}
use mathlib.Core.List.{List, [], ◌∷◌}
use mathlib.Core.Bool.{Bool, true, false, ◌&&◌}
use mathlib.Mathlib.Data.Bool.Basic.{and_elim_left, and_elim_right}
use mathlib.Core.Logic.{◌⊎◌, inl, inr}
use native.Mathlib.Omega.{arith}
use lib.ListN.{length, get_or, set}
use lib.Seq.{get_or-set_same, get_or-set_other}
use lib.Dec.{ltb, eqb}
use borrow.Author.Tests.{lt-ltb, ltb-true, ltb-false}
use Rattle.tree_expr.specs.Answer.{then, Step}
use Rattle.tree_stmt.specs.Sorts.{Sort, never, group, opt}
use Rattle.tree_stmt.specs.Codes.{codes, pack, row_of, singles, sort_at, unpack, sorts_of}
use Rattle.tree_stmt.specs.Frames.{Look, rest_of, again_of, height, Opens, over, more, field_step, frame_at, past, into, failed, Turned, goes, same}
use Rattle.tree_stmt.specs.declared.Frame.{Frame}
use Rattle.tree_stmt.specs.declared.Turn.TheVariants.{Past, Into}
use Rattle.tree_expr.specs.declared.Cursor.{Cursor}
use Rattle.tree_expr.specs.declared.Misread.{Misread}
use Rattle.tree_stmt.proofs.Steps.{then_read, size_s, size_r, size_none, size_pos, size_cons, size_many, size_group, size_opt, small_row, sort_opt, sort_many, sort_group}
use Rattle.tree_stmt.proofs.Sound.{field_after}
use Rattle.tree_stmt.proofs.Frames.{sorts_next, sorts_none, sorts_packed, then_then, then_same, frame_end, frame_again, frame_next}
use Rattle.std.specs.Prelude.{Ok, Err}
use Rattle.tree_expr.specs.declared.Misread.TheVariants.{Wrong, Deep}

-- ---- sizes

-- so many rows of a size
unfoldable pub rows_size : ℕ → ℕ → ℕ
rows_size zero r = 0
rows_size (suc k) r = r + 1 + rows_size k r

-- of what is left in a frame
unfoldable pub size_f : Frame → ℕ
size_f f = size_r (sorts_of f.fields) + rows_size f.times (size_r (row_of f.row))

rows_next : (k r : ℕ) → 0 < k → rows_size k r ≡ r + 1 + rows_size (k - 1) r
unfolding rows_size
rows_next zero r h = absurd (omega arith)
rows_next (suc k) r h = let e : suc k - 1 ≡ k = omega arith in ap (λ (x : ℕ). r + 1 + rows_size x r) (sym e)

rows_small : (k r : ℕ) → r < 1000 → rows_size k r ≤ 1000 * k
unfolding rows_size
rows_small zero r h = omega arith
rows_small (suc k) r h = omega (arith, rows_small k r h)

small_s : List Sort → Bool
small_s [] = true
small_s (s ∷ l) = ltb (size_s s) 1000 && small_s l

small_single : (l : List Sort) (k : ℕ) → small_s l ≡ true → size_s (get_or l k never) < 1000
unfolding small_s size_s
small_single [] k e = lib.Dec.lit< tt
small_single (s ∷ l) zero e = ltb-true (size_s s) 1000 (and_elim_left _ _ e)
small_single (s ∷ l) (suc k) e = small_single l k (and_elim_right (ltb (size_s s) 1000) _ e)

single_small : (k : ℕ) → k < 16 → size_s (sort_at k) < 1010
unfolding sort_at singles small_s size_s size_r
single_small k h =
    let z : size_s (get_or singles k never) < 1000 = small_single singles k refl in
    simp (lt-ltb k 16 h) (omega arith)

sort_small : (k : ℕ) → size_s (sort_at k) < 1010
sort_small k = go (ltb k 16) (ltb k 64) (ltb k 112) refl refl refl
  where
    go : (a b c : Bool) → ltb k 16 ≡ a → ltb k 64 ≡ b → ltb k 112 ≡ c → size_s (sort_at k) < 1010
    go true b c p q r = single_small k (ltb-true k 16 p)
    go false true c p q r = omega (arith, ap size_s (sort_opt k (ltb-false k 16 p) (ltb-true k 64 q)), size_opt (row_of (k - 16)), small_row (k - 16))
    go false false true p q r = omega (arith, ap size_s (sort_many k (ltb-false k 64 q) (ltb-true k 112 r)), size_many (row_of (k - 64)), small_row (k - 64))
    go false false false p q r = omega (arith, ap size_s (sort_group k (ltb-false k 112 r)), size_group (row_of (k - 112)), small_row (k - 112))

unpack_small : (k x : ℕ) → size_r (unpack k x) ≤ 1012 * x + 1
unfolding unpack
unpack_small zero x = omega (arith, size_none)
unpack_small (suc k) zero = omega (arith, size_none)
unpack_small (suc k) (suc x) = omega (arith, size_cons (sort_at (suc x % 256)) (unpack k (suc x / 256)), sort_small (suc x % 256), unpack_small k (suc x / 256))

frame_small : (f : Frame) → f.fields < 4096 → f.times < 16777216 → size_f f < 1099511627776
unfolding size_f
frame_small f a b = omega (arith, unpack_small f.fields f.fields, rows_small f.times (size_r (row_of f.row)) (small_row f.row))

size_end : (f : Frame) → 0 < size_f f
unfolding size_f
size_end f = omega (arith, size_pos (sorts_of f.fields))

size_again : (f : Frame) → f.fields ≡ 0 → 0 < f.times → size_f (again_of f) < size_f f
unfolding size_f
size_again f z h =
    let s : size_r (sorts_of f.fields) ≡ 1 = ap size_r (sorts_none z) ∙ size_none in
    let p : size_r (sorts_of (pack (codes f.row))) ≡ size_r (row_of f.row) = ap size_r (sorts_packed f.row) in
    omega (arith, s, p, rows_next f.times (size_r (row_of f.row)) h)

size_next : (f : Frame) → (f.fields ≡ 0 → ⊥) → size_f f ≡ size_s (sort_at (f.fields % 256)) + size_f (rest_of f) + 2
unfolding size_f
size_next f z = omega (arith, ap size_r (sorts_next f.fields z) ∙ size_cons (sort_at (f.fields % 256)) (sorts_of (f.fields / 256)))

-- one row is smaller than the option or the group that it stands in
size_same : (s : Sort) (r left : ℕ) → (s ≡ opt (row_of r)) ⊎ (s ≡ group (row_of r)) → size_f (record { fields = 0; row = r; times = 1; left = left }) ≤ size_s s
unfolding size_f rows_size
size_same s r left (inl e) = omega (arith, ap size_r (sorts_none {x = 0} refl) ∙ size_none, ap size_s e, size_opt (row_of r))
size_same s r left (inr e) = omega (arith, ap size_r (sorts_none {x = 0} refl) ∙ size_none, ap size_s e, size_group (row_of r))

-- ---- the stack: below a height, what stands at each place

-- the sizes of the frames below a height
unfoldable pub total : (ℕ → Frame) → ℕ → ℕ
total g zero = 0
total g (suc i) = size_f (g i) + total g i

total_same : (g h : ℕ → Frame) (k : ℕ) → ((i : ℕ) → i < k → g i ≡ h i) → total g k ≡ total h k
unfolding total
total_same g h zero e = refl
total_same g h (suc i) e = let q : size_f (g i) ≡ size_f (h i) = ap size_f (e i (omega arith)) in omega (arith, q, total_same g h i (λ j z. e j (omega (arith, z))))

-- ---- what a turn says, by its kind

-- two turns that are the same enter the same frame at the same place
weighs : (ws : List ℕ) (b : ℕ) {c d : Cursor} {f g : Frame} → ◌≡◌ {A = Look} (Ok (Into c f)) (Ok (Into d g)) → (length ws - c.at) * 1099511627776 + size_f f ≤ b → (length ws - d.at) * 1099511627776 + size_f g ≤ b
weighs ws b {c} {d} {f} {g} e h =
    let p : d ≡ c = cc in
    let q : g ≡ f = cc in
    rw (p, q) h

answers : (ws ns : List ℕ) (n : ℕ) {c d : Cursor} {f g : Frame} → ◌≡◌ {A = Look} (Ok (Into c f)) (Ok (Into d g)) → frame_at ws ns n f c.at ≡ frame_at ws ns n g d.at
answers ws ns n {c} {d} {f} {g} e =
    let p : d ≡ c = cc in
    let q : g ≡ f = cc in
    rw (p, q) refl

-- past: the field is read, up to the turn's place
pub past_is : {ws ns : List ℕ} {n left at : ℕ} {s : Sort} {t : Look} {c : Cursor} → t ≡ Ok (Past c) → Turned ws ns n left at s t → field_step ws ns n left s at ≡ Ok c
past_is k (goes (past e)) = cc
past_is k (goes (into e a b c d)) = cc
past_is k (goes (failed e)) = cc
past_is k (same r e) = cc

-- into: what the field answers is what its frame answers from the turn's place on
pub into_is : {ws ns : List ℕ} {n left at : ℕ} {s : Sort} {t : Look} {c : Cursor} {f : Frame} → t ≡ Ok (Into c f) → Turned ws ns n left at s t → field_step ws ns n left s at ≡ frame_at ws ns n f c.at
into_is k (goes (past e)) = absurd cc
into_is k (goes (into e a b c d)) = e ∙ answers _ _ _ k
into_is k (goes (failed e)) = absurd cc
into_is k (same r e) = e ∙ answers _ _ _ k

-- that frame with the words after it weighs no more than the field did
pub into_less : {ws ns : List ℕ} {n left at : ℕ} {s : Sort} {t : Look} {c : Cursor} {f : Frame} → t ≡ Ok (Into c f) → Turned ws ns n left at s t → (length ws - c.at) * 1099511627776 + size_f f ≤ (length ws - at) * 1099511627776 + size_s s
into_less k (goes (past e)) = absurd cc
into_less {ws = ws} {at = at} {s = s} k (goes (into {c} {f} e a b i j)) = weighs ws _ k (omega (arith, frame_small f i j))
into_less k (goes (failed e)) = absurd cc
into_less {ws = ws} {left = left} {at = at} {s = s} k (same {r} q e) = weighs ws _ k (omega (arith, size_same s r left q))

-- a failure: the field fails so
pub failed_is : {ws ns : List ℕ} {n left at : ℕ} {s : Sort} {t : Look} {m : Misread} → t ≡ Err m → Turned ws ns n left at s t → field_step ws ns n left s at ≡ Err m
failed_is k (goes (past e)) = cc
failed_is k (goes (into e a b c d)) = cc
failed_is k (goes (failed e)) = cc
failed_is k (same r e) = cc

-- nothing is read after it
then_failed : (m : Misread) (f : ℕ → Step) → then (Err m) f ≡ Err m
unfolding then
then_failed (Wrong p) f = refl
then_failed (Deep p) f = refl

-- ---- the stack, by its top

total_top : (g : ℕ → Frame) (k : ℕ) → 0 < k → total g k ≡ size_f (g (k - 1)) + total g (k - 1)
unfolding total
total_top g zero h = absurd (omega arith)
total_top g (suc k) h = let e : suc k - 1 ≡ k = omega arith in ap (λ (x : ℕ). size_f (g x) + total g x) (sym e)

pushed_size : (g g' : ℕ → Frame) (sp : ℕ) (f : Frame) (o : ℕ) → Opens f o → ((i : ℕ) → i < sp → g' i ≡ g i) → g' sp ≡ f → total g' (sp + o) ≤ size_f f + total g sp
unfolding total
pushed_size g g' sp f _ (over z e) alike top =
    let q : sp + 0 ≡ sp = omega arith in
    omega (arith, ap (λ (x : ℕ). total g' x) q, total_same g' g sp alike)
pushed_size g g' sp f _ more alike top =
    let q : sp + 1 ≡ suc sp = omega arith in
    omega (arith, ap (λ (x : ℕ). total g' x) q, ap size_f top, total_same g' g sp alike)

-- what stands at each place of the list that is the stack
abbrev pub on_stack : List Frame → ℕ → Frame
on_stack st i = get_or st i (record { fields = 0; row = 0; times = 0; left = 0 })

module _ (ws ns : List ℕ) (n : ℕ) where
  -- what the frames below a height answer, the top one first
  unfoldable pub after : (ℕ → Frame) → ℕ → ℕ → Step
  after g zero m = Ok (record { at = m })
  after g (suc i) m = then (frame_at ws ns n (g i) m) (λ m'. after g i m')

  after_same : (g h : ℕ → Frame) (k m : ℕ) → ((i : ℕ) → i < k → g i ≡ h i) → after g k m ≡ after h k m
  unfolding after
  after_same g h zero m e = refl
  after_same g h (suc i) m e =
      ap (λ (f : Frame). then (frame_at ws ns n f m) (λ m'. after g i m')) (e i (omega arith))
      ∙ then_same _ _ _ (λ m'. after_same g h i m' (λ j z. e j (omega (arith, z))))

  -- what is still to be answered, and how much that is
  abbrev pub whole : (ℕ → Frame) → ℕ → Frame → ℕ → Step
  whole g sp f at = then (frame_at ws ns n f at) (λ m. after g sp m)

  -- the words that are left, and then the sizes of the frames
  abbrev pub weight : (ℕ → Frame) → ℕ → Frame → ℕ → ℕ
  weight g sp f at = (length ws - at) * 1099511627776 + (size_f f + total g sp)

  -- a turn of the loop
  pub record Next (g : ℕ → Frame) (sp : ℕ) (f : Frame) (at : ℕ) (g' : ℕ → Frame) (sp' : ℕ) (f' : Frame) (at' : ℕ) : Type 0 where
    pub is : whole g sp f at ≡ whole g' sp' f' at'
    pub less : weight g' sp' f' at' < weight g sp f at

  after_top : (g : ℕ → Frame) (k m : ℕ) → 0 < k → after g k m ≡ whole g (k - 1) (g (k - 1)) m
  unfolding after
  after_top g zero m h = absurd (omega arith)
  after_top g (suc k) m h = let e : suc k - 1 ≡ k = omega arith in ap (λ (x : ℕ). whole g x (g x) m) (sym e)

  -- after a frame was put on top
  pushed_is : (g g' : ℕ → Frame) (sp : ℕ) (f : Frame) (o m : ℕ) → Opens f o → ((i : ℕ) → i < sp → g' i ≡ g i) → g' sp ≡ f → whole g sp f m ≡ after g' (sp + o) m
  unfolding then after
  pushed_is g g' sp f _ m (over z e) alike top =
      let q : sp + 0 ≡ sp = omega arith in
      ap (λ (s : Step). then s (λ m'. after g sp m')) (frame_end ws ns n f m z e)
      ∙ after_same g g' sp m (λ i h. sym (alike i h))
      ∙ ap (λ (x : ℕ). after g' x m) (sym q)
  pushed_is g g' sp f _ m more alike top =
      let q : sp + 1 ≡ suc sp = omega arith in
      ap (λ (h : Frame). whole g sp h m) (sym top)
      ∙ then_same (frame_at ws ns n (g' sp) m) (λ m'. after g sp m') (λ m'. after g' sp m') (λ m'. after_same g g' sp m' (λ i h. sym (alike i h)))
      ∙ ap (λ (x : ℕ). after g' x m) (sym q)

  module _ (g : ℕ → Frame) (sp : ℕ) (f : Frame) (at : ℕ) where
    -- nothing is left, here and on the stack: all is read
    pub ends : f.fields ≡ 0 → f.times ≡ 0 → sp ≡ 0 → whole g sp f at ≡ Ok (record { at = at })
    unfolding then after
    ends z e q = ap (λ (s : Step). then s (λ m. after g sp m)) (frame_end ws ns n f at z e) ∙ ap (λ (x : ℕ). after g x at) q

    -- the next row of the frame in hand
    pub goes_again : f.fields ≡ 0 → 0 < f.times → Next g sp f at g sp (again_of f) at
    goes_again z h = record { is = ap (λ (s : Step). then s (λ m. after g sp m)) (frame_again ws ns n f at z h); less = omega (arith, size_again f z h) }

    -- the frame in hand is done: the top one is taken from the stack
    pub goes_up : f.fields ≡ 0 → f.times ≡ 0 → 0 < sp → Next g sp f at g (sp - 1) (g (sp - 1)) at
    unfolding then
    goes_up z e h =
        record {
          is = ap (λ (s : Step). then s (λ m. after g sp m)) (frame_end ws ns n f at z e) ∙ after_top g sp at h;
          less = omega (arith, size_end f, total_top g sp h);
        }

    -- the field in hand: what it reads, then the rest
    next_field : (f.fields ≡ 0 → ⊥) → whole g sp f at ≡ then (field_step ws ns n f.left (sort_at (f.fields % 256)) at) (λ m. whole g sp (rest_of f) m)
    next_field z = ap (λ (s : Step). then s (λ m. after g sp m)) (frame_next ws ns n f at z) ∙ then_then _ _ _

    -- a field is read: the frame past it
    pub goes_past : {m : ℕ} → (f.fields ≡ 0 → ⊥) → field_step ws ns n f.left (sort_at (f.fields % 256)) at ≡ Ok (record { at = m }) → Next g sp f at g sp (rest_of f) m
    unfolding then
    goes_past {m} z e =
        record {
          is = next_field z ∙ ap (λ (s : Step). then s (λ m'. whole g sp (rest_of f) m')) e;
          less = omega (arith, size_next f z, field_after ws ns n f.left (sort_at (f.fields % 256)) at e);
        }

    -- a field fails: so does the whole
    pub stops : {m : Misread} → (f.fields ≡ 0 → ⊥) → field_step ws ns n f.left (sort_at (f.fields % 256)) at ≡ Err m → Err m ≡ whole g sp f at
    stops {m} z e = sym (next_field z ∙ ap (λ (s : Step). then s (λ m'. whole g sp (rest_of f) m')) e ∙ then_failed m _)

    -- a frame is entered: what is left of the one in hand goes onto the stack, if that is anything
    pub goes_into : (g' : ℕ → Frame) (r : Frame) (o m : ℕ) (f' : Frame) → (f.fields ≡ 0 → ⊥) → field_step ws ns n f.left (sort_at (f.fields % 256)) at ≡ frame_at ws ns n f' m → (length ws - m) * 1099511627776 + size_f f' ≤ (length ws - at) * 1099511627776 + size_s (sort_at (f.fields % 256)) → r ≡ rest_of f → Opens r o → ((i : ℕ) → i < sp → g' i ≡ g i) → g' sp ≡ r → Next g sp f at g' (sp + o) f' m
    goes_into g' r o m f' z e w q p alike top =
        record {
          is = next_field z ∙ ap (λ (s : Step). then s (λ m'. whole g sp (rest_of f) m')) e ∙ then_same _ _ _ (λ m'. ap (λ (h : Frame). whole g sp h m') (sym q) ∙ pushed_is g g' sp r o m' p alike top);
          less = omega (arith, size_next f z, w, ap size_f q, pushed_size g g' sp r o p alike top);
        }

  -- by the frame that a function answers
  pub next_frame : {g g' : ℕ → Frame} {sp sp' at at' : ℕ} {f f' h : Frame} → h ≡ f' → Next g sp f at g' sp' f' at' → Next g sp f at g' sp' h at'
  next_frame {g} {g'} {sp} {sp'} {at} {at'} {f} e x = subst (λ (y : Frame). Next g sp f at g' sp' y at') (sym e) x

  -- ---- the loop's invariant, over the list that is the stack

  -- what was asked is still to be answered, no heavier than at first, and the stack has room
  pub record Held (f₀ : Frame) (at₀ : ℕ) (st : List Frame) (sp at : ℕ) (f : Frame) : Type 0 where
    pub is : frame_at ws ns n f₀ at₀ ≡ whole (on_stack st) sp f at
    pub light : weight (on_stack st) sp f at ≤ (length ws - at₀) * 1099511627776 + size_f f₀
    pub room : sp ≤ height
    pub long : length st ≡ height

  -- it holds before the first turn
  pub held_first : (f : Frame) (at : ℕ) (st : List Frame) → length st ≡ height → Held f at st 0 at f
  unfolding after total
  held_first f at st h = record { is = sym (then_read _); light = omega arith; room = omega arith; long = h }

  -- and after each
  pub held_next : {f₀ f f' : Frame} {at₀ sp at sp' at' : ℕ} {st st' : List Frame} → Held f₀ at₀ st sp at f → Next (on_stack st) sp f at (on_stack st') sp' f' at' → sp' ≤ height → length st' ≡ height → Held f₀ at₀ st' sp' at' f'
  held_next h x a b = record { is = h.is ∙ x.is; light = omega (arith, h.light, x.less); room = a; long = b }

  -- each turn makes the weight less
  pub lighter : {f₀ f f' : Frame} {at₀ sp at sp' at' : ℕ} {st : List Frame} {g' : ℕ → Frame} → Held f₀ at₀ st sp at f → Next (on_stack st) sp f at g' sp' f' at' → weight g' sp' f' at' < weight (on_stack st) sp f at
  lighter h x = x.less

  -- a frame is entered: the list with the rest of the one in hand put on top
  pub push : (st : List Frame) {sp at o : ℕ} {f r h : Frame} {c : Cursor} {t : Look} → length st ≡ height → sp < height → (f.fields ≡ 0 → ⊥) → t ≡ Ok (Into c h) → Turned ws ns n f.left at (sort_at (f.fields % 256)) t → r ≡ rest_of f → Opens r o → Next (on_stack st) sp f at (on_stack (set st sp r)) (sp + o) h c.at
  push st {sp} {at} {o} {f} {r} {h} {c} {t} l b z k x q p =
      goes_into (on_stack st) sp f at (on_stack (set st sp r)) r o c.at h z (into_is k x) (into_less k x) q p
      (λ i j. get_or-set_other st sp i r _ (λ e. omega (arith, e, j)))
      (get_or-set_same st sp r _ (omega arith))

  -- what a frame that is entered weighs, beside what was asked at first
  pub inner_less : {f₀ f h : Frame} {at₀ sp at : ℕ} {st : List Frame} {c : Cursor} {t : Look} → Held f₀ at₀ st sp at f → (f.fields ≡ 0 → ⊥) → t ≡ Ok (Into c h) → Turned ws ns n f.left at (sort_at (f.fields % 256)) t → (length ws - c.at) * 1099511627776 + size_f h < (length ws - at₀) * 1099511627776 + size_f f₀
  inner_less {f₀} {f} y z k x = omega (arith, y.light, into_less k x, size_next f z)

-- at most one frame goes onto the stack
pub opens_small : {f : Frame} {o : ℕ} → Opens f o → o ≤ 1
opens_small (over z e) = omega arith
opens_small more = omega arith
