-- Rows read one after another: what was read so far, and what is left; and lists, as their count and their rows. Assumes nothing.
use Rattle.std.specs.Prelude.{ℕ, ◌+◌, ◌-◌, ◌<◌, ◌≤◌, ◌≡◌, refl, List, [], ◌∷◌, ◌++◌, length, get_or}
use Rattle.std.proofs.Common.{arith, sym, ap, ◌∙◌, append-nil, append_assoc, length-append}
use Rattle.std.proofs.Math.Path.{subst}
use Rattle.base_words.specs.Word.{pay_of}
use Rattle.tree_expr.specs.Expr.{Expr}
use Rattle.tree_expr.proofs.Parts.{wrote_first}
use Rattle.tree_stmt.specs.Sorts.{Sorts, many}
use Rattle.tree_stmt.specs.Tree.{Tree, one, row, rows, list, none, more, count, words_t}
use Rattle.tree_stmt.specs.Stands.{Stands, SomeTree}
use Rattle.tree_stmt.proofs.Nodes.{in_list, in_more}
use Rattle.tree_views.specs.View.{rows_of, items}

-- a row that stands there, so many rows that do
pub record RowAt (ss : Sorts) (ws ns : List ℕ) (n at : ℕ) : Type 0 where
  pub tree : Tree Expr (row ss)
  pub end : ℕ
  pub stands : Stands ws ns n at tree end

-- so many rows that stand there, whatever strings they have
pub record SomeRows (ss : Sorts) (total : ℕ) (ws : List ℕ) (at : ℕ) : Type 0 where
  pub names : List ℕ
  pub strings : ℕ
  pub tree : Tree Expr (rows ss)
  pub end : ℕ
  pub stands : Stands ws names strings at tree end
  pub counted : count tree ≡ total

-- a row that stands there, whatever strings it has
pub some_row : {ss : Sorts} {ws ns : List ℕ} {n at : ℕ} → RowAt ss ws ns n at → SomeTree (row ss) ws at
some_row {ns = ns} {n = n} R = record { names = ns; strings = n; tree = R.tree; end = R.end; stands = R.stands }

-- of rows that stand from a place on i were read and `left` stand at another; P holds of what f reads of those before
pub record Part {A : Type 0} {ss : Sorts} (f : Tree Expr (row ss) → A) (P : List A → Type 0) (ws ns : List ℕ) (n : ℕ) (rs : Tree Expr (rows ss)) (end at i left : ℕ) : Type 0 where
  pub rest : Tree Expr (rows ss)
  pub there : Stands ws ns n at rest end
  pub counted : count rest ≡ left
  pub done : List A
  pub many : length done ≡ i
  pub split : rows_of f rs ≡ done ++ rows_of f rest
  pub told : P done

-- the same, whatever rows stand there: a loop's invariant once i of `total` rows were read
pub record Turn {A : Type 0} {ss : Sorts} (f : Tree Expr (row ss) → A) (P : List A → Type 0) (ws : List ℕ) (from total at i : ℕ) : Type 0 where
  pub is : (ns : List ℕ) (n : ℕ) (rs : Tree Expr (rows ss)) (end : ℕ) → Stands ws ns n from rs end → count rs ≡ total → Part f P ws ns n rs end at i (total - i)

no_words : {ss : Sorts} (rs : Tree Expr (rows ss)) → count rs ≡ 0 → words_t rs ≡ []
unfolding words_t count
no_words none e = refl
no_words (more r rs) e = absurd (omega arith)

no_rows_lem : {A : Type 0} {ss : Sorts} (f : Tree Expr (row ss) → A) (rs : Tree Expr (rows ss)) → count rs ≡ 0 → rows_of f rs ≡ []
unfolding rows_of count
no_rows_lem f none e = refl
no_rows_lem f (more r rs) e = absurd (omega arith)

first_row : {A : Type 0} {ss : Sorts} (f : Tree Expr (row ss) → A) (r : Tree Expr (row ss)) (rs : Tree Expr (rows ss)) → rows_of f (more r rs) ≡ f r ∷ rows_of f rs
unfolding rows_of
first_row f r rs = refl

module _ {A : Type 0} {ss : Sorts} {f : Tree Expr (row ss) → A} where
  -- at the start none was read and all are left
  pub turn_start : (P : List A → Type 0) → P [] → (ws : List ℕ) (from total : ℕ) → Turn f P ws from total from 0
  turn_start P p ws from total = record { is = λ ns n rs end S c. record { rest = rs; there = S; counted = omega arith; done = []; many = refl; split = refl; told = p } }

  module _ {P : List A → Type 0} {ws : List ℕ} {from total at i : ℕ} (T : Turn f P ws from total at i) where
    -- one more stands there
    pub turn_row : i < total → {ns : List ℕ} {n : ℕ} {rs : Tree Expr (rows ss)} {end : ℕ} → Stands ws ns n from rs end → count rs ≡ total → RowAt ss ws ns n at
    turn_row h {ns} {n} {rs} {end} S c =
        let p = T.is ns n rs end S c in
        let m = in_more ws ns n (omega (arith, p.counted)) p.there in
        record { tree = m.head; end = m.mid; stands = m.there }

    -- one more row stands there
    pub turn_some : i < total → SomeRows ss total ws from → SomeTree (row ss) ws at
    turn_some h S = some_row (turn_row h S.stands S.counted)

    -- what is told of those before
    pub turn_told : (S : SomeRows ss total ws from) → P (T.is S.names S.strings S.tree S.end S.stands S.counted).done
    turn_told S = (T.is S.names S.strings S.tree S.end S.stands S.counted).told

    -- it was read
    pub turn_next : i < total → (Q : List A → Type 0) (m : ℕ)
        → ((ns : List ℕ) (n : ℕ) (r : Tree Expr (row ss)) (end : ℕ) → Stands ws ns n at r end → (m ≡ end) × ((done : List A) → length done ≡ i → P done → Q (done ++ (f r ∷ []))))
        → Turn f Q ws from total m (i + 1)
    turn_next h Q m F = record {
      is = λ ns n rs end S c.
          let p = T.is ns n rs end S c in
          let q = in_more ws ns n (omega (arith, p.counted)) p.there in
          let g = F ns n q.head q.mid q.there in
          record {
            rest = q.tail;
            there = subst (λ (k : ℕ). Stands ws ns n k q.tail end) (sym g.0) q.next;
            counted = omega (arith, p.counted, q.counted);
            done = p.done ++ (f q.head ∷ []);
            many = length-append p.done (f q.head ∷ []) ∙ ap (λ (k : ℕ). k + 1) p.many;
            split = p.split ∙ ap (λ (l : List A). p.done ++ l) (ap (rows_of f) q.is ∙ first_row f q.head q.tail) ∙ sym (append_assoc p.done (f q.head ∷ []) (rows_of f q.tail));
            told = g.1 p.done p.many p.told;
          };
    }

    -- all were read
    pub turn_end : total ≤ i → (ns : List ℕ) (n : ℕ) (rs : Tree Expr (rows ss)) (end : ℕ) → Stands ws ns n from rs end → count rs ≡ total → (at ≡ end) × P (rows_of f rs)
    turn_end z ns n rs end S c =
        let p = T.is ns n rs end S c in
        let e : count p.rest ≡ 0 = omega (arith, p.counted) in
        let all : rows_of f rs ≡ p.done = p.split ∙ ap (λ (l : List A). p.done ++ l) (no_rows_lem f p.rest e) ∙ append-nil p.done in
        (omega (arith, p.there.wrote.span, ap length (no_words p.rest e)), subst P (sym all) p.told)

-- ---- a list: its count, and its rows after it

module _ {ss : Sorts} {ws : List ℕ} {at : ℕ} where
  -- a list begins within the words
  pub list_inside : {ns : List ℕ} {n : ℕ} {v : Tree Expr (one (many ss))} {end : ℕ} → Stands ws ns n at v end → at < length ws
  unfolding words_t
  list_inside {v = list rs} S = (wrote_first S.wrote).inside

  -- after its count as many rows stand
  pub list_rows : SomeTree (one (many ss)) ws at → SomeRows ss (pay_of (get_or ws at 0)) ws (at + 1)
  list_rows S =
      let l = in_list ws S.names S.strings S.stands in
      record { names = S.names; strings = S.strings; tree = l.items; end = S.end; stands = l.there; counted = l.counted }

  -- what holds of its rows holds of it
  pub list_all : {A : Type 0} (f : Tree Expr (row ss) → A) (Q : List A → ℕ → Type 0)
      → ((ns : List ℕ) (n : ℕ) (rs : Tree Expr (rows ss)) (end : ℕ) → Stands ws ns n (at + 1) rs end → count rs ≡ pay_of (get_or ws at 0) → Q (rows_of f rs) end)
      → (ns : List ℕ) (n : ℕ) (v : Tree Expr (one (many ss))) (end : ℕ) → Stands ws ns n at v end → Q (items f v) end
  unfolding items
  list_all f Q F ns n v end S =
      let l = in_list ws ns n S in
      subst (λ (x : Tree Expr (one (many ss))). Q (items f x) end) (sym l.is) (F ns n l.items end l.there l.counted)
