-- The marks of the names of kept fields: a name has the mark exactly where a field of that name was said before. Assumes nothing.
use Prim.Native.Nat.{ℕ, zero, suc, ◌<◌}
use mathlib.Core.Path.{◌≡◌, refl, sym, ap, ◌∙◌, subst}
use mathlib.Core.Bool.{Bool, true, false, ◌||◌, or-false, or-true}
use mathlib.Core.List.{List, [], ◌∷◌, ◌++◌}
use native.Mathlib.Omega.{arith}
use lib.Dec.{eqb}
use lib.ListN.{length, get_or, set, replicate, length-set, length-replicate}
use lib.Seq.{get_or-set_same, get_or-set_other}
use borrow.Author.Tests.{eqb-true, eqb-false, eq-eqb, ne_eqb}
use Rattle.base_words.specs.Word.{pick}
use Rattle.tree_stmt.specs.Memo.{zero_at}
use Rattle.tree_views.specs.View.{head, arg, FieldDecl}
use Rattle.rows_table.specs.Rows.{Row}
use Rattle.rows_table.specs.Laws.{pick_true, pick_false}
use Rattle.rows_runs.specs.Runs.{Keeps}
use Rattle.collect_type.specs.Types.{type_code, said, code_of, field_code, Below, Marks, Codes}
use Rattle.collect_type.proofs.Laws.{said_kept, said_rejected}

-- at first all are 0
pub below_one : (n : ℕ) → n ≡ 1024 → Below 1 (replicate {A = ℕ} n 0)
below_one n e = record { long = length-replicate n 0 ∙ e; all = λ x. omega (arith, zero_at n x) }

-- marks below 1 are below 2
pub below_two : {seen : List ℕ} → Below 1 seen → Below 2 seen
below_two B = record { long = B.long; all = λ x. omega (arith, B.all x) }

set_below : (m : ℕ) (l : List ℕ) (i k : ℕ) → k < m → ((x : ℕ) → get_or l x 0 < m) → (x : ℕ) → get_or (set l i k) x 0 < m
set_below m [] i k h B x = B x
set_below m (y ∷ ys) zero k h B zero = h
set_below m (y ∷ ys) zero k h B (suc x) = B (suc x)
set_below m (y ∷ ys) (suc i) k h B zero = B zero
set_below m (y ∷ ys) (suc i) k h B (suc x) = set_below m ys i k h (λ z. B (suc z)) x

module _ {m owner k name h a code : ℕ} {b seen seen' : List ℕ} where
  -- there are as many marks after a field
  pub marked_length : Codes m owner k name h a code b seen seen' → length seen' ≡ length seen
  marked_length C = ap length C.marked ∙ go (eqb code 0)
    where
      go : (t : Bool) → length (pick t (set seen name m) seen) ≡ length seen
      go true = length-set seen name m
      go false = refl

  -- they are below the same bound, where the mark is
  pub below_next : {top : ℕ} → m < top → Below top seen → Codes m owner k name h a code b seen seen' → Below top seen'
  below_next {top} l B C = record { long = marked_length C ∙ B.long; all = subst (λ (s : List ℕ). (x : ℕ) → get_or s x 0 < top) (sym C.marked) (go (eqb code 0)) }
    where
      go : (t : Bool) (x : ℕ) → get_or (pick t (set seen name m) seen) x 0 < top
      go true = set_below top seen name m l B.all
      go false = B.all

-- ---- a field's code, by the tests that the code makes

module _ {m owner k name h a : ℕ} {b seen : List ℕ} where
  -- its name has the mark
  pub codes_twice : get_or seen name 0 ≡ m → Codes m owner k name h a 5 b seen seen
  codes_twice e = record { code = λ rows H. sym (pick_true 5 (type_code rows owner h a) (eq-eqb (get_or seen name 0) m e)); marked = refl }

  -- it hasn't, and the type may not stand there
  pub codes_rejected : {code : ℕ} → (get_or seen name 0 ≡ m → ⊥) → ((rows : List Row) → Keeps rows k b → code ≡ type_code rows owner h a) → (code ≡ 0 → ⊥) → Codes m owner k name h a code b seen seen
  codes_rejected {code} n T z =
      record {
        code = λ rows H. T rows H ∙ sym (pick_false 5 (type_code rows owner h a) (ne_eqb (get_or seen name 0) m n));
        marked = sym (pick_false (set seen name m) seen (ne_eqb code 0 z));
      }

  -- it hasn't, and the type may
  pub codes_kept : {code : ℕ} → (get_or seen name 0 ≡ m → ⊥) → ((rows : List Row) → Keeps rows k b → code ≡ type_code rows owner h a) → code ≡ 0 → Codes m owner k name h a 0 b seen (set seen name m)
  codes_kept {code} n T z = record { code = λ rows H. sym z ∙ T rows H ∙ sym (pick_false 5 (type_code rows owner h a) (ne_eqb (get_or seen name 0) m n)); marked = refl }

-- ---- the marks and what was said

module _ (m : ℕ) (rows : List Row) (owner : ℕ) where
  -- before the first field no name has the mark
  pub marks_none : (seen : List ℕ) → Below m seen → Marks m rows owner [] seen
  unfolding said
  marks_none seen B = record { is = λ x. ne_eqb (get_or seen x 0) m (λ e. omega (arith, e, B.all x)) }

  module _ (before : List FieldDecl) (seen : List ℕ) (M : Marks m rows owner before seen) (g : FieldDecl) (name : ℕ) (en : name ≡ g.name) where
    -- a field's code by its name's mark
    pub marks_code : (code h a : ℕ) → h ≡ head g.ty → a ≡ arg g.ty → code ≡ pick (eqb (get_or seen name 0) m) 5 (type_code rows owner h a) → code ≡ field_code rows owner before g
    unfolding code_of
    marks_code code h a eh ea e =
        let q : code ≡ pick (said rows owner name before) 5 (type_code rows owner h a) = e ∙ ap (λ (t : Bool). pick t 5 (type_code rows owner h a)) (M.is name) in
        rw (en, eh, ea) at q

    set_mark : name < length seen → (x : ℕ) → eqb (get_or (set seen name m) x 0) m ≡ (said rows owner x before || eqb g.name x)
    set_mark h x = go (eqb g.name x) refl
      where
        go : (t : Bool) → eqb g.name x ≡ t → eqb (get_or (set seen name m) x 0) m ≡ (said rows owner x before || t)
        go true q =
            let z : name ≡ x = en ∙ eqb-true g.name x q in
            ap (λ (y : ℕ). eqb (get_or (set seen name m) y 0) m) (sym z) ∙ eq-eqb _ m (get_or-set_same seen name m 0 h) ∙ sym (or-true (said rows owner x before))
        go false q = ap (λ (y : ℕ). eqb y m) (get_or-set_other seen name x m 0 (λ z. eqb-false g.name x q (sym en ∙ sym z))) ∙ M.is x ∙ sym (or-false (said rows owner x before))

    -- after the field
    pub marks_next : (code : ℕ) (seen' : List ℕ) → code ≡ field_code rows owner before g → name < length seen → seen' ≡ pick (eqb code 0) (set seen name m) seen → Marks m rows owner (before ++ (g ∷ [])) seen'
    marks_next code seen' ec h e = subst (Marks m rows owner (before ++ (g ∷ []))) (sym e) (go (eqb code 0) refl)
      where
        go : (t : Bool) → eqb code 0 ≡ t → Marks m rows owner (before ++ (g ∷ [])) (pick t (set seen name m) seen)
        go true q = record { is = λ x. set_mark h x ∙ said_kept rows owner x before g (sym ec ∙ eqb-true code 0 q) }
        go false q = record { is = λ x. M.is x ∙ said_rejected rows owner x before g (λ z. eqb-false code 0 q (ec ∙ z)) }
