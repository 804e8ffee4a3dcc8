-- A list of expressions resolved one after another: what is written after some of them, from the first to the last. Assumes nothing.
use Prim.Native.Nat.{ℕ, suc, ◌+◌, ◌≤◌, ◌<◌}
use native.Mathlib.Nat.{add-zero, zero-add}
use native.Mathlib.Omega.{arith}
use mathlib.Core.Path.{◌≡◌, refl, sym, ap, ap₂, ◌∙◌, fun_ext}
use mathlib.Core.Bool.{Bool}
use mathlib.Core.List.{List, [], ◌++◌, append-nil, append_assoc}
use lib.ListN.{length, length-append}
use lib.Seq.{sets}
use Rattle.base_words.specs.Laws.{sets_append}
use Rattle.tree_expr.specs.Expr.{Strings, Expr, Exprs, none, more, many, words, words_all, Valids}
use Rattle.tree_expr.specs.Stands.{Stands, StandsAll}
use Rattle.tree_expr.proofs.Parts.{wrote_left, wrote_right}
use Rattle.resolve_definition.specs.Tables.{Tables, Places, after}
use Rattle.rows_table.specs.Rows.{Row, Holds}
use Rattle.resolve_definition.specs.FromRows.{tables_of}
use Rattle.resolve_definition.specs.Resolve.{passed, resolve_expr, resolve_args}
use Rattle.resolve_definition.specs.Keeps.{shorter}
use Rattle.resolve_exprs.specs.Node.{pair_of, bare}
use Rattle.resolve_exprs.specs.Post.{Put}
use Rattle.resolve_exprs.proofs.Writing.{passed_words, stands_bare}

-- the places of the members from the i-th on
unfoldable pub onward : Places → ℕ → Places
onward m i j = m (i + j)

onward_first : (m : Places) (i : ℕ) → onward m i 0 ≡ m i
unfolding onward
onward_first m i = ap m (add-zero i)

onward_rest : (m : Places) (i : ℕ) → after (onward m i) ≡ onward m (i + 1)
unfolding onward after
onward_rest m i = fun_ext (λ j. let e : i + suc j ≡ (i + 1) + j = omega arith in ap m e)

onward_all : (m : Places) → onward m 0 ≡ m
unfolding onward
onward_all m = fun_ext (λ j. ap m (zero-add j))

-- after the first i members of es, which stand from `at` on: those left stand at a, and what is written reaches t
pub record Part (T : Tables) (σ : ℕ) (m : Places) (ws : List ℕ) (n : Strings) (es : Exprs) (at end to : ℕ) (out : List ℕ) (a t i : ℕ) (now : List ℕ) : Type 0 where
  pub left : Exprs
  pub there : StandsAll ws n a left end
  pub few : many left + i ≡ many es
  pub wrote : List ℕ
  pub upto : t ≡ to + length wrote
  pub short : at + length wrote ≤ a
  pub is : now ≡ sets out to wrote
  pub rest : words_all (resolve_args T σ m es) ≡ wrote ++ words_all (resolve_args T σ (onward m i) left)

-- whatever rows the buffer holds, and whatever k members stand there
pub record Walked (m : Tables → Places) (k : ℕ) (ws buf out : List ℕ) (count scope at to a t i : ℕ) (now : List ℕ) : Type 0 where
  pub gives : (rows : List Row) → Holds rows count buf → (n : Strings) (es : Exprs) (end : ℕ) → StandsAll ws n at es end → many es ≡ k → Part (tables_of rows) scope (m (tables_of rows)) ws n es at end to out a t i now

-- none is resolved, and all are left
pub part_start : (T : Tables) (σ : ℕ) (m : Places) {ws : List ℕ} {n : Strings} {es : Exprs} {at end : ℕ} (to : ℕ) (out : List ℕ) → StandsAll ws n at es end → Part T σ m ws n es at end to out at to 0 out
part_start T σ m {ws} {n} {es} {at} {end} to out s = record { left = es; there = s; few = add-zero (many es); wrote = []; upto = sym (add-zero to); short = omega arith; is = refl; rest = ap (λ (p : Places). words_all (resolve_args T σ p es)) (sym (onward_all m)) }

-- the next member
pub record Next (ws : List ℕ) (n : Strings) (a : ℕ) (es : Exprs) (end : ℕ) : Type 0 where
  pub head : Expr
  pub mid : ℕ
  pub tail : Exprs
  pub there : Stands ws n a head mid
  pub next : StandsAll ws n mid tail end
  pub is : es ≡ more head tail

-- a list that isn't empty has a first member
pub next : {ws : List ℕ} {n : Strings} {a : ℕ} {es : Exprs} {end : ℕ} → 0 < many es → StandsAll ws n a es end → Next ws n a es end
unfolding many words_all Valids
next {es = none} h s = absurd (omega arith)
next {es = more e es} h s = record { head = e; mid = _; tail = es; there = record { wrote = wrote_left (words e) (words_all es) s.wrote; valid = s.valid.0 }; next = record { wrote = wrote_right (words e) s.wrote; valid = s.valid.1 }; is = refl }

module _ {T : Tables} {σ : ℕ} {m : Places} {ws : List ℕ} {n : Strings} {es : Exprs} {at end to : ℕ} {out : List ℕ} {a t i : ℕ} {now : List ℕ} (p : Part T σ m ws n es at end to out a t i now) where
  -- where some are left, there is a next one
  pub part_next : i < many es → Next ws n a p.left end
  part_next h = next (omega (arith, p.few)) p.there

  -- the next member is a whole argument: its pair, and then what is resolved
  pub part_step : (N : Next ws n a p.left end) {mid last : List ℕ} {h a' t' : ℕ} → h ≡ length (pair_of (m i) N.head) → mid ≡ sets now t (pair_of (m i) N.head) → Put (words (resolve_expr T σ (bare (m i) N.head))) mid last (t + h) a' t' N.mid → Part T σ m ws n es at end to out a' t' (i + 1) last
  unfolding many resolve_args words_all
  part_step N {mid} {last} {h} {a'} {t'} hh mm d =
      let e : Expr = N.head in
      let k : Bool = m i in
      let x : List ℕ = pair_of k e in
      let y : List ℕ = words (resolve_expr T σ (bare k e)) in
      let s = stands_bare k N.there in
      let short : length y ≤ length (words (bare k e)) = shorter T σ (bare k e) in
      let one : onward m i 0 ≡ k = onward_first m i in
      record {
        left = N.tail;
        there = rw d.past N.next;
        few = omega (arith, p.few, ap many N.is);
        wrote = p.wrote ++ (x ++ y);
        upto = simp length-append (omega (arith, p.upto, d.upto, hh));
        short = simp length-append (omega (arith, p.short, d.past, s.wrote.span, shorter T σ (bare k e)));
        is = d.now
            ∙ ap (λ (l : List ℕ). sets l (t + h) y) mm
            ∙ ap (λ (j : ℕ). sets (sets now t x) (t + j) y) hh
            ∙ sym (sets_append x y now t)
            ∙ ap (λ (l : List ℕ). sets l t (x ++ y)) p.is
            ∙ ap (λ (j : ℕ). sets (sets out to p.wrote) j (x ++ y)) p.upto
            ∙ sym (sets_append p.wrote (x ++ y) out to);
        rest = p.rest
            ∙ ap (λ (ds : Exprs). p.wrote ++ words_all (resolve_args T σ (onward m i) ds)) N.is
            ∙ ap₂ (λ (b : Bool) (q : Places). p.wrote ++ (words (passed b e (resolve_expr T σ e)) ++ words_all (resolve_args T σ q N.tail))) one (onward_rest m i)
            ∙ ap (λ (l : List ℕ). p.wrote ++ (l ++ words_all (resolve_args T σ (onward m (i + 1)) N.tail))) (passed_words T σ k e)
            ∙ sym (append_assoc p.wrote (x ++ y) (words_all (resolve_args T σ (onward m (i + 1)) N.tail)));
      }

  -- all of them
  pub part_end : many es ≤ i → Put (words_all (resolve_args T σ m es)) out now to a t end
  unfolding many resolve_args words_all
  part_end h =
      let z : p.left ≡ none = go p.left (omega (arith, p.few)) in
      let w : words_all (resolve_args T σ m es) ≡ p.wrote = p.rest ∙ ap (λ (ds : Exprs). p.wrote ++ words_all (resolve_args T σ (onward m i) ds)) z ∙ append-nil p.wrote in
      record { past = omega (arith, p.there.wrote.span, ap (λ (ds : Exprs). length (words_all ds)) z); upto = rw w p.upto; now = rw w p.is }
    where
      go : (ds : Exprs) → many ds ≡ 0 → ds ≡ none
      go none q = refl
      go (more d ds) q = absurd (omega arith)
