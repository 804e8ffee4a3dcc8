-- What is left of a row and of the rows after it, and what reading that gives; what reading a field's own words tells.
use Rattle.std.specs.Prelude.{ℕ, ◌-◌, ◌/◌, ◌<◌, ◌≤◌, ◌≡◌, ◌⊎◌, List, length, Result, Ok, Err}
use Rattle.tree_expr.specs.Reader.{expr_at}
use Rattle.tree_expr.specs.Answer.{step_of, then, Step}
use Rattle.tree_stmt.specs.Sorts.{Sort, group, opt}
use Rattle.tree_stmt.specs.Tree.{strings}
use Rattle.tree_stmt.specs.Codes.{codes, pack, row_of, sorts_of}
use Rattle.tree_stmt.specs.Reader.{rows_at, field_at, row_at, stmt_at}
use Rattle.tree_stmt.specs.declared.Frame.{Frame}
use Rattle.tree_stmt.specs.declared.Turn.{Turn}
use Rattle.tree_stmt.specs.declared.Turn.TheVariants.{Past, Into}
use Rattle.tree_expr.specs.declared.Cursor.{Cursor}
use Rattle.tree_expr.specs.declared.Misread.{Misread}

-- what reading a field's own words answers: how it goes on, or why it does not
abbrev pub Look : Type 0
Look = Result Turn Misread

-- a whole field's answer as a turn
unfoldable pub told_of : Step → Look
told_of (Ok c) = Ok (Past c)
told_of (Err m) = Err m

-- a frame past its next field
abbrev pub rest_of : Frame → Frame
rest_of f = record { fields = f.fields / 256; row = f.row; times = f.times; left = f.left }

-- a frame with the fields of its next row
abbrev pub again_of : Frame → Frame
again_of f = record { fields = pack (codes f.row); row = f.row; times = f.times - 1; left = f.left }

-- how many frames the code's stack has
abbrev pub height : ℕ
height = 8

-- whether anything is left
pub data Opens (f : Frame) : ℕ → Type 0 where
  over : f.fields ≡ 0 → f.times ≡ 0 → Opens f 0
  more : Opens f 1

module _ (ws ns : List ℕ) (n : ℕ) where
  -- the answer to a field, with so many levels left
  abbrev pub field_step : ℕ → Sort → ℕ → Step
  field_step left s at = step_of (field_at ws ns n (expr_at ws (strings ns n) left) (stmt_at ws ns n left) s at)

  -- the fields, then the rows
  unfoldable pub frame_at : Frame → ℕ → Step
  frame_at f at =
      then (step_of (row_at ws ns n (expr_at ws (strings ns n) f.left) (stmt_at ws ns n f.left) (sorts_of f.fields) at))
      (λ m. step_of (rows_at ws ns n (λ x. row_at ws ns n (expr_at ws (strings ns n) f.left) (stmt_at ws ns n f.left) (row_of f.row) x) f.times m))

  -- a turn tells the answer s: where a frame is left of it, that is behind a word
  pub data Goes (at : ℕ) (s : Step) : Look → Type 0 where
    past : {c : Cursor} → s ≡ Ok c → Goes at s (Ok (Past c))
    into : {c : Cursor} {f : Frame} → s ≡ frame_at f c.at → at < c.at → c.at ≤ length ws → f.fields < 4096 → f.times < 16777216 → Goes at s (Ok (Into c f))
    failed : {m : Misread} → s ≡ Err m → Goes at s (Err m)

  -- or the frame is the row of an option or a group, at the same place
  pub data Turned (left at : ℕ) (s : Sort) : Look → Type 0 where
    goes : {t : Look} → Goes at (field_step left s at) t → Turned left at s t
    same : {r : ℕ} → (s ≡ opt (row_of r)) ⊎ (s ≡ group (row_of r)) → field_step left s at ≡ frame_at (record { fields = 0; row = r; times = 1; left = left }) at → Turned left at s (Ok (Into (record { at = at }) (record { fields = 0; row = r; times = 1; left = left })))
