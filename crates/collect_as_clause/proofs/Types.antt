-- What the words of a type say. Assumes nothing.
use Prim.Native.Nat.{ℕ, ◌+◌, ◌<◌, ◌≤◌}
use native.Mathlib.Omega.{arith}
use mathlib.Core.Path.{◌≡◌, refl, sym, ap, ◌∙◌}
use mathlib.Core.List.{List, [], ◌∷◌, append-nil}
use mathlib.Core.Option.{Option, none as absent, some}
use Rattle.std.specs.Prelude.{None, Some}
use lib.Dec.{lit<}
use lib.ListN.{length, get_or}
use Rattle.base_words.specs.Word.{word_of, kind_of, pay_of}
use Rattle.tree_expr.specs.Expr.{Expr}
use Rattle.tree_expr.specs.Stands.{Wrote}
use Rattle.tree_expr.proofs.Parts.{wrote_first, kind_is, pay_is}
use Rattle.tree_stmt.specs.Sorts.{TypeRef as TypeSort, opt, nil, ◌&◌}
use Rattle.tree_stmt.specs.Tree.{Tree, one, word, part, this, that, done, cons, words_t, Right}
use Rattle.tree_stmt.specs.Stands.{Stands, SomeTree}
use Rattle.tree_views.specs.View.{TypeRef, Integer, Long, Single, Double, FixedString, Record, head, arg, head_of, arg_of, optional, type_ref, as_type}
use Rattle.rows_lookup.specs.declared.Typed.{Typed}
use Rattle.collect_as_clause.specs.Parts.{TypeIs, AsTypeIs, written, written_if, head_word, arg_word}

-- the head alone up to 43, with an argument from 44 on
pub record Here (ws : List ℕ) (at : ℕ) (t : TypeRef) (end : ℕ) : Type 0 where
  pub inside : at < length ws
  pub head_is_lem : kind_of (get_or ws at 0) ≡ head t
  pub short : kind_of (get_or ws at 0) < 44 → (arg t ≡ 0) × (at + 1 ≡ end)
  pub long : 44 ≤ kind_of (get_or ws at 0) → (at + 1 < length ws) × (pay_of (get_or ws (at + 1) 0) ≡ arg t) × (at + 2 ≡ end)

module _ {ws : List ℕ} {at end : ℕ} where
  alone : (k : ℕ) (t : TypeRef) → head t ≡ k → arg t ≡ 0 → k < 44 → Wrote ws at (word_of k 0 ∷ []) end → Here ws at t end
  alone k t e z h w =
      let f = wrote_first w in
      let i : kind_of (get_or ws at 0) ≡ k = ap kind_of f.is ∙ kind_is k 0 (lit< tt) in
      record { inside = f.inside; head_is_lem = i ∙ sym e; short = λ _. (z, omega (arith, w.span)); long = λ no. absurd (omega arith) }

  pair : (k kind x : ℕ) (t : TypeRef) → head t ≡ k → arg t ≡ x → (k < 44 → ⊥) → x < 16777216 → Wrote ws at (word_of k 0 ∷ word_of kind x ∷ []) end → Here ws at t end
  pair k kind x t e z h b w =
      let f = wrote_first w in
      let s = wrote_first f.rest in
      let i : kind_of (get_or ws at 0) ≡ k = ap kind_of f.is ∙ kind_is k 0 (lit< tt) in
      record { inside = f.inside; head_is_lem = i ∙ sym e; short = λ y. absurd (h (omega arith)); long = λ _. (s.inside, ap pay_of s.is ∙ pay_is kind x b ∙ sym z, omega (arith, w.span)) }

  -- so it is of a type that stands there
  pub here : {ns : List ℕ} {n : ℕ} (v : Tree Expr (one TypeSort)) → Stands ws ns n at v end → Here ws at (type_ref v) end
  unfolding type_ref words_t Right
  here (this done) s = alone 40 Integer refl refl (lit< tt) s.wrote
  here (that (this done)) s = alone 41 Long refl refl (lit< tt) s.wrote
  here (that (that (this done))) s = alone 42 Single refl refl (lit< tt) s.wrote
  here (that (that (that (this done)))) s = alone 43 Double refl refl (lit< tt) s.wrote
  here (that (that (that (that (this (cons (word n) done)))))) s = pair 44 4 n (FixedString n) refl refl (λ h. omega arith) s.valid.0.1 s.wrote
  here (that (that (that (that (that (this (cons (word x) done))))))) s = pair 45 2 x (Record x) refl refl (λ h. omega arith) s.valid.0.1 s.wrote
  here {ns = ns} {n = n} (that (that (that (that (that (that x)))))) s = elim x [ ]

-- a type by its head and its argument
made_of : {h a : ℕ} (t : TypeRef) → h ≡ head t → a ≡ arg t → ◌≡◌ {A = Typed} (record { head = h; arg = a }) (written t)
made_of t e f = rw (e, f) refl

-- what `type_ref` tells
module _ {ws : List ℕ} {at : ℕ} where
  -- a head from 44 on has a word after it
  pub type_second : 44 ≤ kind_of (get_or ws at 0) → SomeTree (one TypeSort) ws at → at + 1 < length ws
  type_second h S = ((here S.tree S.stands).long h).0

  -- a head below 44 is all
  pub type_short : kind_of (get_or ws at 0) < 44 → TypeIs ws at (record { head = kind_of (get_or ws at 0); arg = 0 }) (at + 1)
  type_short h = record { is = λ ns n v end s. let p = here v s in (made_of (type_ref v) p.head_is_lem (sym (p.short h).0), (p.short h).1); small = lit< tt }

  -- one from 44 on has its argument after it
  pub type_long : 44 ≤ kind_of (get_or ws at 0) → TypeIs ws at (record { head = kind_of (get_or ws at 0); arg = pay_of (get_or ws (at + 1) 0) }) (at + 2)
  type_long h = record { is = λ ns n v end s. let p = here v s in (made_of (type_ref v) p.head_is_lem (p.long h).1, (p.long h).2); small = omega arith }

-- the words of a type in a row are its head and its argument
pub head_written : (o : Option TypeRef) → head_word (written_if o) ≡ head_of o
head_written absent = refl
head_written (some t) = refl

pub arg_written : (o : Option TypeRef) → arg_word (written_if o) ≡ arg_of o
arg_written absent = refl
arg_written (some t) = refl

-- an AS clause is the word 0, or a type, whose head is never 0
pub head_some : (t : TypeRef) → 0 < head t
head_some Integer = lit< tt
head_some Long = lit< tt
head_some Single = lit< tt
head_some Double = lit< tt
head_some (FixedString n) = lit< tt
head_some (Record x) = lit< tt

-- an AS clause that is there: its type stands at the same place
pub record InAs (ws ns : List ℕ) (n at end : ℕ) (v : Tree Expr (one (opt (TypeSort & nil)))) : Type 0 where
  pub inner : Tree Expr (one TypeSort)
  pub there : Stands ws ns n at inner end
  pub is : optional as_type v ≡ some (type_ref inner)

module _ {ws ns : List ℕ} {n at end : ℕ} where
  -- the word 0: no type, and one word
  pub as_absent : (v : Tree Expr (one (opt (TypeSort & nil)))) → get_or ws at 0 ≡ 0 → Stands ws ns n at v end → (optional as_type v ≡ absent) × (at + 1 ≡ end)
  unfolding optional as_type words_t Right
  as_absent (this done) z s = (refl, omega (arith, s.wrote.span))
  as_absent (that (part (cons t done))) z s =
      let p = here {ns = ns} {n = n} t (record { wrote = rw (append-nil (words_t t)) at s.wrote; valid = s.valid.0 }) in
      absurd (omega (arith, p.head_is_lem, head_some (type_ref t), ap kind_of z))

  -- any other: a type stands there
  pub as_present : (v : Tree Expr (one (opt (TypeSort & nil)))) → (get_or ws at 0 ≡ 0 → ⊥) → Stands ws ns n at v end → InAs ws ns n at end v
  unfolding optional as_type words_t Right
  as_present (this done) z s = absurd (z (wrote_first s.wrote).is)
  as_present (that (part (cons t done))) z s = record { inner = t; there = record { wrote = rw (append-nil (words_t t)) at s.wrote; valid = s.valid.0 }; is = refl }

  -- its first word is within the words
  pub as_inside : (v : Tree Expr (one (opt (TypeSort & nil)))) → Stands ws ns n at v end → at < length ws
  unfolding words_t Right
  as_inside (this done) s = (wrote_first s.wrote).inside
  as_inside (that (part (cons t done))) s = (here {ns = ns} {n = n} t (record { wrote = rw (append-nil (words_t t)) at s.wrote; valid = s.valid.0 })).inside

-- what `as_type` tells
module _ {ws : List ℕ} {at : ℕ} where
  -- where the word isn't 0, a type stands there
  pub as_inner : (get_or ws at 0 ≡ 0 → ⊥) → SomeTree (one (opt (TypeSort & nil))) ws at → SomeTree (one TypeSort) ws at
  as_inner z S =
      let p = as_present S.tree z S.stands in
      record { names = S.names; strings = S.strings; tree = p.inner; end = S.end; stands = p.there }

  -- the word 0: no type
  pub as_none : get_or ws at 0 ≡ 0 → AsTypeIs ws at None (at + 1)
  as_none z = record { is = λ ns n v end s. let p = as_absent v z s in (ap written_if (sym p.0), p.1); small = lit< tt }

  -- any other: what `type_ref` tells
  pub as_some : {t : Typed} {next : ℕ} → (get_or ws at 0 ≡ 0 → ⊥) → TypeIs ws at t next → AsTypeIs ws at (Some t) next
  as_some z T =
      record {
        is = λ ns n v end s.
            let p = as_present v z s in
            let q = T.is ns n p.inner end p.there in
            (ap Some q.0 ∙ ap written_if (sym p.is), q.1);
        small = T.small;
      }
