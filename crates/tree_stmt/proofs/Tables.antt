-- The code's tables, one after the other: the parts' rows, then the statements', and past the last row nothing. Assumes nothing.
use Prim.Native.Nat.{ℕ, ◌+◌, ◌-◌, ◌<◌, ◌≤◌}
use mathlib.Core.Path.{◌≡◌, sym, ap, ◌∙◌}
use mathlib.Core.List.{List, [], ◌++◌}
use native.Mathlib.Omega.{arith}
use lib.ListN.{get_or, get_or-append, get_or-eq_default}
use lib.Seq.{get_or-append-add}
use Rattle.tree_stmt.specs.Codes.{part_codes, stmt_codes, codes}

-- past the last row there are only zeros
pub no_row : (r i : ℕ) → 93 ≤ r → 0 ≡ get_or (codes r) i 0
unfolding codes part_codes stmt_codes
no_row r i h = sym (ap (λ (l : List ℕ). get_or l i 0) (get_or-eq_default (part_codes ++ stmt_codes) [] h))

-- ---- the parts' rows, then the statements'

-- the first 39 rows are the parts'
pub codes_part : (r : ℕ) → r < 39 → get_or part_codes r [] ≡ codes r
unfolding codes part_codes
codes_part r h = sym (get_or-append part_codes stmt_codes [] r h)

-- those after them are the statements'
pub codes_stmt : (r : ℕ) → 39 ≤ r → get_or stmt_codes (r - 39) [] ≡ codes r
unfolding codes part_codes
codes_stmt r h =
    let k : 39 + (r - 39) ≡ r = omega arith in
    sym (get_or-append-add part_codes stmt_codes (r - 39) []) ∙ ap (λ (x : ℕ). get_or (part_codes ++ stmt_codes) x []) k
