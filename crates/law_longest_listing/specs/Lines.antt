-- How long the lines of a diagnostic can be whose names are names: at most 261 bytes, by the longest template. A name has at most 40 bytes, a number at most
-- ten digits. Assumes nothing.
use Prim.Native.Nat.{ℕ, zero, suc, ◌+◌, ◌-◌, ◌/◌, ◌%◌, ◌≤◌, ◌<◌}
use Prim.Native.String.{String}
use native.Mathlib.Omega.{arith}
use Rattle.std.proofs.Common.{eq-or-lt_of_le, inl, inr, leb-true, ne_eqb, get_or-append-add}
use Rattle.std.specs.Prelude.{◌≡◌, Bool, false, ◌&&◌, ◌⊎◌, eqb, leb, ltb, get_or}
use Rattle.std.proofs.Math.Path.{refl}
use Rattle.std.proofs.Math.Bool.{true}
use mathlib.Mathlib.Data.Bool.Basic.{and_elim_left, and_elim_right}
use mathlib.Core.List.{List, [], ◌∷◌, ◌++◌}
use Rattle.std.proofs.Math.ListN.{length, length-append, get_or-append}
use Rattle.base_words.specs.Word.{pick}
use Rattle.base_strings.specs.Name.{between, rest, is_name}
use Rattle.base_strings.specs.Table.{start_of, string_at, marks_below, names_of}
use Rattle.base_strings.proofs.Laws.{marks_length, names_length}
use Rattle.base_text.specs.Text.{ascii, digit, digits, decimal}
use Rattle.rows_lent.specs.Rules.{is_marked, scope_ok}
use Rattle.rows_lent.specs.RuleLaws.{name_below}
use Rattle.list_message.specs.Message.{Template, error, error_with_note, templates, name, either, piece, render, message_line, note_line, said, lines}
use Rattle.list_message.specs.declared.Diag.{Diag}

-- ---- numbers

digits_short : (k n : ℕ) → length (digits k n) ≤ k
unfolding digits
digits_short zero n = omega arith
digits_short (suc k) n = go (ltb n 10) (digits_short k (n / 10))
  where
    go : (b : Bool) → length (digits k (n / 10)) ≤ k → length (pick b (digit n ∷ []) (digits k (n / 10) ++ (digit (n % 10) ∷ []))) ≤ suc k
    go true h = omega arith
    go false h = simp length-append (omega arith)

-- no number has more than ten digits
pub decimal_short : (n : ℕ) → length (decimal n) ≤ 10
unfolding decimal
decimal_short n = digits_short 10 n

-- ---- names

name_few : (s : List ℕ) → is_name s ≡ true → length s ≤ 40
unfolding is_name
name_few [] e = omega arith
name_few (b ∷ bs) e = leb-true (length (b ∷ bs)) 40 (and_elim_left _ (between 65 90 b && rest bs) e)

one_is : (b : Bool) → eqb (pick b 1 0) 1 ≡ true → b ≡ true
one_is true e = refl
one_is false e = e

last_is : (xs : List ℕ) (v x : ℕ) → x ≡ length xs → get_or (xs ++ (v ∷ [])) x 0 ≡ v
last_is xs v x e =
    let f : x ≡ length xs + 0 = omega arith in
    rw f (get_or-append-add xs (v ∷ []) 0 0)

module _ (bytes ends : List ℕ) where
  -- what is marked is a name
  marked_name : (m x : ℕ) → x < m → is_marked (marks_below bytes ends m) x ≡ true → is_name (string_at bytes ends x) ≡ true
  unfolding marks_below
  marked_name zero x h e = absurd (omega arith)
  marked_name (suc m) x h e = go (eq-or-lt_of_le {n = x} {m = m} (omega arith)) (λ q f. marked_name m x q f)
    where
      marks : List ℕ
      marks = marks_below bytes ends m

      go : (x ≡ m) ⊎ (x < m) → (x < m → is_marked marks x ≡ true → is_name (string_at bytes ends x) ≡ true) → is_name (string_at bytes ends x) ≡ true
      go (inl q) before =
          let f = last_is marks (pick (is_name (string_at bytes ends m)) 1 0) x (omega (arith, marks_length bytes ends m)) in
          rw q (one_is (is_name (string_at bytes ends m)) (rw f at e))
      go (inr q) before = before q (rw (get_or-append marks (pick (is_name (string_at bytes ends m)) 1 0 ∷ []) 0 x (omega (arith, marks_length bytes ends m))) at e)

  start_is : (x : ℕ) → get_or (0 ∷ ends) x 0 ≡ start_of ends x
  unfolding start_of
  start_is zero = refl
  start_is (suc x) = refl

  -- the string behind a name's number plus 1
  name_string : (x : ℕ) → name bytes ends (suc x) ≡ string_at bytes ends x
  unfolding name string_at
  name_string x =
      let k : suc x - 1 ≡ x = omega arith in
      rw (k, start_is x) refl

  name_short : (k : ℕ) → scope_ok (names_of bytes ends) k ≡ true → length (name bytes ends k) ≤ 40
  unfolding name scope_ok names_of
  name_short zero e = omega arith
  name_short (suc x) e =
      let k : suc x - 1 ≡ x = omega arith in
      let m : is_marked (names_of bytes ends) x ≡ true = rw (ne_eqb (suc x) 0 (λ q. omega arith), k) at e in
      rw (name_string x) (name_few (string_at bytes ends x) (marked_name (length ends) x (omega (arith, name_below (names_of bytes ends) x m, names_length bytes ends)) m))

-- ---- a template

-- the most bytes that a byte of a template can stand for
unfoldable most : ℕ → ℕ
most b = pick (eqb b 64) 40 (pick (eqb b 38) 40 (pick (eqb b 35) 10 (pick (eqb b 37) 1 (pick (eqb b 36) 6 (pick (eqb b 33) 8 (pick (eqb b 94) 10 1))))))

unfoldable most_of : List ℕ → ℕ
most_of [] = 0
most_of (b ∷ bs) = most b + most_of bs

-- `D `, a number, a blank, the line's end; `N ` and the line's end
unfoldable most_in : Template → ℕ
most_in (error m) = 14 + most_of (ascii m)
most_in (error_with_note m n) = 14 + most_of (ascii m) + (3 + most_of (ascii n))

pick_short : (t : Bool) (xs ys : List ℕ) (m n : ℕ) → length xs ≤ m → length ys ≤ n → length (pick t xs ys) ≤ pick t m n
pick_short true xs ys m n h k = h
pick_short false xs ys m n h k = k

either_short : (a b : String) (k m : ℕ) → length (ascii a) ≤ m → length (ascii b) ≤ m → length (either a b k) ≤ m
unfolding either
either_short a b k m h i = go (eqb k 1)
  where
    go : (t : Bool) → length (pick t (ascii a) (ascii b)) ≤ m
    go true = h
    go false = i

-- the bytes of a line around its number and its message
two : length (ascii "D ") ≡ 2
unfolding ascii
two = refl

note_two : length (ascii "N ") ≡ 2
unfolding ascii
note_two = refl

blank : length (ascii " ") ≡ 1
unfolding ascii
blank = refl

-- a line's end is one byte
pub newline : length (ascii "\n") ≡ 1
unfolding ascii
newline = refl

-- both names are none or names
pub record Names (bytes ends : List ℕ) (d : Diag) : Type 0 where
  pub first : scope_ok (names_of bytes ends) d.first ≡ true
  pub second : scope_ok (names_of bytes ends) d.second ≡ true

module _ (bytes ends : List ℕ) (d : Diag) (N : Names bytes ends d) where
  piece_short : (b : ℕ) → length (piece bytes ends d b) ≤ most b
  unfolding piece most ascii
  piece_short b =
      pick_short (eqb b 64) _ _ 40 _ (name_short bytes ends d.first N.first) (
      pick_short (eqb b 38) _ _ 40 _ (name_short bytes ends d.second N.second) (
      pick_short (eqb b 35) _ _ 10 _ (decimal_short d.number) (
      pick_short (eqb b 37) _ _ 1 _ (either_short "" "s" d.number 1 (omega arith) (omega arith)) (
      pick_short (eqb b 36) _ _ 6 _ (either_short "STATIC" "SHARED" d.number 6 (omega arith) (omega arith)) (
      pick_short (eqb b 33) _ _ 8 _ (either_short "FUNCTION" "SUB" d.number 8 (omega arith) (omega arith)) (
      pick_short (eqb b 94) _ (b ∷ []) 10 1 (decimal_short d.note) (omega arith)))))))

  render_short : (bs : List ℕ) → length (render bytes ends d bs) ≤ most_of bs
  unfolding render most_of
  render_short [] = omega arith
  render_short (b ∷ bs) = simp length-append (omega (arith, piece_short b, render_short bs))

  message_short : (m : String) → length (message_line bytes ends d m) ≤ 14 + most_of (ascii m)
  unfolding message_line
  message_short m =
      let l = decimal d.line in
      let r = render bytes ends d (ascii m) in
      let d₁ : length (ascii "D ") ≡ 2 = two in
      let d₂ : length (ascii " ") ≡ 1 = blank in
      let d₃ : length (ascii "\n") ≡ 1 = newline in
      omega (arith, decimal_short d.line, render_short (ascii m), length-append (ascii "D ") (l ++ (ascii " " ++ (r ++ ascii "\n"))), length-append l (ascii " " ++ (r ++ ascii "\n")), length-append (ascii " ") (r ++ ascii "\n"), length-append r (ascii "\n"))

  note_short : (m : String) → length (note_line bytes ends d m) ≤ 3 + most_of (ascii m)
  unfolding note_line
  note_short m =
      let r = render bytes ends d (ascii m) in
      let d₁ : length (ascii "N ") ≡ 2 = note_two in
      let d₃ : length (ascii "\n") ≡ 1 = newline in
      omega (arith, render_short (ascii m), length-append (ascii "N ") (r ++ ascii "\n"), length-append r (ascii "\n"))

  said_short : (t : Template) → length (said bytes ends d t) ≤ most_in t
  unfolding said most_in
  said_short (error m) = message_short m
  said_short (error_with_note m n) = omega (arith, message_short m, note_short n, length-append (message_line bytes ends d m) (note_line bytes ends d n))

-- ---- all templates

unfoldable all_short : List Template → Bool
all_short [] = true
all_short (t ∷ ts) = leb (most_in t) 261 && all_short ts

templates_short : all_short templates ≡ true
unfolding all_short templates most_in most_of most ascii
templates_short = refl

template_short : (ts : List Template) (i : ℕ) → all_short ts ≡ true → most_in (get_or ts i (error "")) ≤ 261
unfolding all_short most_in most_of ascii
template_short [] i e = omega arith
template_short (t ∷ ts) zero e = leb-true (most_in t) 261 (and_elim_left (leb (most_in t) 261) (all_short ts) e)
template_short (t ∷ ts) (suc i) e = template_short ts i (and_elim_right (leb (most_in t) 261) (all_short ts) e)

-- a diagnostic's lines have at most 261 bytes
pub lines_short : (bytes ends : List ℕ) (d : Diag) → Names bytes ends d → length (lines bytes ends d) ≤ 261
unfolding lines
lines_short bytes ends d N =
    let t = get_or templates d.code (error "") in
    omega (arith, said_short bytes ends d N t, template_short templates d.code templates_short)
