-- Rendering the template that pieces make is writing what the pieces stand for (`all_shown`), and the lines of a diagnostic.
use Prim.Native.Nat.{ℕ, zero, suc, ◌-◌}
use mathlib.Core.Path.{◌≡◌, refl, sym, ap, ◌∙◌}
use mathlib.Core.Bool.{Bool, true, false, not, ◌&&◌, ◌||◌, false≢true}
use mathlib.Core.List.{List, [], ◌∷◌, ◌++◌, append_assoc, append-nil, map, flat_map}
use lib.Dec.{eqb}
use lib.ListN.{take, drop, get_or}
use Rattle.std.specs.List.{list_all}
use Rattle.base_text.specs.Text.{ascii, decimal}
use Rattle.list_message.specs.declared.Diag.{Diag}
use Rattle.list_message.specs.declared.Piece.{Piece}
use Rattle.list_message.specs.declared.Piece.TheVariants.{Text, First, Second, Number, Plural, Scope, Procedure, NoteLine}
use Rattle.list_message.specs.Message.{Template, error, error_with_note, templates, name, either, piece, render, message_line, note_line, said, lines}
use Rattle.list_message.specs.Table.{run, table}
use Rattle.list_message.specs.Pieces.{marks, shown, mark, plain, template}

-- rendering goes from left to right
render_append : (bytes ends : List ℕ) (d : Diag) (xs ys : List ℕ) → render bytes ends d (xs ++ ys) ≡ render bytes ends d xs ++ render bytes ends d ys
unfolding render
render_append bytes ends d [] ys = refl
render_append bytes ends d (x ∷ xs) ys = ap (λ r. piece bytes ends d x ++ r) (render_append bytes ends d xs ys) ∙ sym (append_assoc (piece bytes ends d x) (render bytes ends d xs) (render bytes ends d ys))

neither : (a b : Bool) → (a || b) ≡ false → (a ≡ false) × (b ≡ false)
neither true b e = absurd (false≢true (sym e))
neither false b e = (refl, e)

-- bytes without a mark stand for themselves
unmarked : (xs : List ℕ) → marks xs ≡ false → (bytes ends : List ℕ) (d : Diag) → render bytes ends d xs ≡ xs
unfolding marks render piece
unmarked [] e bytes ends d = refl
unmarked (b ∷ xs) e bytes ends d =
    let h₁ = neither (eqb b 64) _ e in
    let h₂ = neither (eqb b 38) _ h₁.1 in
    let h₃ = neither (eqb b 35) _ h₂.1 in
    let h₄ = neither (eqb b 37) _ h₃.1 in
    let h₅ = neither (eqb b 36) _ h₄.1 in
    let h₆ = neither (eqb b 33) _ h₅.1 in
    let h₇ = neither (eqb b 94) (marks xs) h₆.1 in
    rw (h₁.0, h₂.0, h₃.0, h₄.0, h₅.0, h₆.0, h₇.0) (ap (λ y. b ∷ y) (unmarked xs h₇.1 bytes ends d))

unnot : (b : Bool) → not b ≡ true → b ≡ false
unnot true e = absurd (false≢true e)
unnot false e = refl

-- both hold
pub both : (a b : Bool) → (a && b) ≡ true → (a ≡ true) × (b ≡ true)
both true b e = (refl, e)
both false b e = absurd (false≢true e)

-- ---- pieces

-- a piece stands for what its mark stands for
piece_shown : (bytes ends : List ℕ) (d : Diag) (p : Piece) → plain p ≡ true → render bytes ends d (mark p) ≡ shown bytes ends d p
unfolding render piece
piece_shown bytes ends d (Text t) e = unmarked t.now (unnot (marks t.now) e) bytes ends d
piece_shown bytes ends d First e = append-nil (name bytes ends d.first)
piece_shown bytes ends d Second e = append-nil (name bytes ends d.second)
piece_shown bytes ends d Number e = append-nil (decimal d.number)
piece_shown bytes ends d Plural e = append-nil (either "" "s" d.number)
piece_shown bytes ends d Scope e = append-nil (either "STATIC" "SHARED" d.number)
piece_shown bytes ends d Procedure e = append-nil (either "FUNCTION" "SUB" d.number)
piece_shown bytes ends d NoteLine e = append-nil (decimal d.note)

-- pieces stand for what the template that they make stands for
pub all_shown : (bytes ends : List ℕ) (d : Diag) (ps : List Piece) → list_all plain ps ≡ true → flat_map (shown bytes ends d) ps ≡ render bytes ends d (template ps)
unfolding template flat_map render
all_shown bytes ends d [] e = refl
all_shown bytes ends d (p ∷ ps) e =
    let h = both (plain p) (list_all plain ps) e in
    rw (render_append bytes ends d (mark p) (flat_map mark ps), piece_shown bytes ends d p h.0, ← all_shown bytes ends d ps h.1)

-- ---- names

-- the bytes from the end before to its own are the name
pub named : (bytes ends : List ℕ) (k l s e : ℕ) → l ≡ k - 1 → s ≡ get_or (0 ∷ ends) l 0 → e ≡ get_or (0 ∷ ends) k 0 → take (e - s) (drop s bytes) ≡ name bytes ends k
unfolding name
named bytes ends k l s e p q r = rw (r, q, p)

-- ---- the lines

-- the line's end and the next line's front stand for themselves
front : (bytes ends : List ℕ) (d : Diag) (xs : List ℕ) → render bytes ends d (ascii "\nN " ++ xs) ≡ ascii "\nN " ++ render bytes ends d xs
unfolding render piece ascii
front bytes ends d xs = refl

-- the rendered run between the front and the end of a line is what is said
run_said : (bytes ends : List ℕ) (d : Diag) (t : Template) → ascii "D " ++ (decimal d.line ++ (32 ∷ [] ++ (render bytes ends d (run t) ++ (10 ∷ [])))) ≡ said bytes ends d t
unfolding run said message_line note_line ascii
run_said bytes ends d (error m) = refl
run_said bytes ends d (error_with_note m n) =
    let r = render bytes ends d in
    let e : r (ascii m ++ (ascii "\nN " ++ ascii n)) ≡ r (ascii m) ++ (ascii "\nN " ++ r (ascii n)) = render_append bytes ends d (ascii m) (ascii "\nN " ++ ascii n) ∙ ap (λ y. r (ascii m) ++ y) (front bytes ends d (ascii n)) in
    rw e (simp append_assoc)

run_at : (ts : List Template) (c : ℕ) → get_or (map run ts) c [] ≡ run (get_or ts c (error ""))
unfolding run ascii
run_at [] c = refl
run_at (t ∷ ts) zero = refl
run_at (t ∷ ts) (suc c) = run_at ts c

-- the pieces that the code writes, one after another, are the diagnostic's lines
pub all_said : (bytes ends : List ℕ) (d : Diag) → ascii "D " ++ (decimal d.line ++ (32 ∷ [] ++ (render bytes ends d (get_or table d.code []) ++ (10 ∷ [])))) ≡ lines bytes ends d
unfolding lines table
all_said bytes ends d = rw (run_at templates d.code) (run_said bytes ends d (get_or templates d.code (error "")))
