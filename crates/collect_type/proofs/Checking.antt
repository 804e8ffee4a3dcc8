-- The fields looked at in order: the loop of `check`. What is left to look at does the same as all of it. Assumes nothing.
use Prim.Native.Nat.{ℕ, ◌+◌, ◌*◌, ◌≤◌, ◌<◌}
use mathlib.Core.Path.{◌≡◌, refl, sym, ap, ◌∙◌, subst}
use mathlib.Core.Bool.{Bool, true, false}
use mathlib.Core.Logic.{◌⊎◌, inl, inr}
use mathlib.Core.List.{List, [], ◌∷◌, ◌++◌}
use native.Mathlib.Omega.{arith}
use lib.Dec.{eqb}
use lib.ListN.{length}
use Rattle.base_words.specs.Word.{pick}
use Rattle.tree_expr.specs.Expr.{Expr}
use Rattle.tree_stmt.specs.Sorts.{FieldDecl as FieldRow}
use Rattle.tree_stmt.specs.Tree.{Tree, row as one_row, rows as many_rows, count}
use Rattle.tree_stmt.specs.Stands.{Stands, SomeTree}
use Rattle.tree_views.specs.View.{head, arg, FieldDecl, rows_of, field_decl}
use Rattle.rows_table.specs.Rows.{Row, note_width}
use Rattle.rows_runs.specs.Runs.{Keeps}
use Rattle.rows_table.specs.Laws.{order}
use Rattle.collect_buffers.specs.State.{State, running}
use Rattle.collect_buffers.specs.declared.Counts.{Counts}
use Rattle.collect_buffers.specs.Held.{Held}
use Rattle.collect_definition.specs.Collect.{FieldInfo}
use Rattle.collect_type.specs.Types.{SomeFields, FieldIs, Below, Marks, field_code, sized, sized_by, looks, checks, total, kept_fields, Codes, Looks, Checks}
use Rattle.collect_type.specs.declared.read.FieldAt.{FieldAt}
use Rattle.collect_type.specs.declared.Kept.{Kept}
use Rattle.collect_type.proofs.Marks.{marks_none, marks_code, marks_next}
use Rattle.collect_type.proofs.Walk.{next_of, next_name, Rest, rest_all, rest_next, rest_none}

-- between two fields: the state, and that what is left leads to the same end, with the same words and as many kept
pub record Mid (N D : ℕ) (rows notes : List Row) (line owner : ℕ) (fs : List FieldDecl) (c : Kept) (b d seen : List ℕ) (before after : List FieldDecl) : Type 0 where
  pub state : State
  pub held : Held N D state c.counts b d
  pub marks : Marks 1 rows owner before seen
  pub left : checks D rows line owner c.words before after state ≡ checks D rows line owner 0 [] fs (running rows notes)
  pub size : total rows owner c.words before after ≡ total rows owner 0 [] fs
  pub many : c.fields + length (kept_fields rows owner c.words before after) ≡ length (kept_fields rows owner 0 [] fs)

-- after i fields of v, under whatever rows the run began with
pub record CheckingAt (ws ns : List ℕ) (m : ℕ) (v : Tree Expr (many_rows FieldRow)) (end line owner : ℕ) (s : Counts) (b d₀ : List ℕ) (c : Kept) (a i : ℕ) (d seen : List ℕ) : Type 0 where
  pub past : Rest ws ns m v end a i
  pub mid : (N D : ℕ) (rows notes : List Row) → Held N D (running rows notes) s b d₀ → Mid N D rows notes line owner (rows_of field_decl v) c b d seen past.before (rows_of field_decl past.rest)

-- the same of whatever fields stand there, and the counts fit
pub record Checking (ws : List ℕ) (at n line owner : ℕ) (s : Counts) (b d₀ : List ℕ) (c : Kept) (a i : ℕ) (d seen : List ℕ) : Type 0 where
  pub fit : c.counts.notes * note_width ≤ length d
  pub kept : c.counts.rows ≡ s.rows
  pub few : c.words ≤ 65535
  pub fields : c.fields ≤ i
  pub upto : i ≤ n
  pub walked : (ns : List ℕ) (m : ℕ) (v : Tree Expr (many_rows FieldRow)) (end : ℕ) → Stands ws ns m at v end → n ≤ count v → CheckingAt ws ns m v end line owner s b d₀ c a i d seen

-- neither below nor above: all n
pub all_of : (i n : ℕ) → i ≤ n → (i < n → ⊥) → i ≡ n
all_of i n le out = go (order i n)
  where
    go : (i < n) ⊎ (n ≤ i) → i ≡ n
    go (inl h) = absurd (out h)
    go (inr h) = omega arith

-- the kept fields are no more than those looked at
pub more_fields : (code k k' i : ℕ) → k' ≡ pick (eqb code 0) (k + 1) k → k ≤ i → k' ≤ i + 1
more_fields code k k' i e h = go (eqb code 0) e
  where
    go : (t : Bool) → k' ≡ pick t (k + 1) k → k' ≤ i + 1
    go true q = omega arith
    go false q = omega arith

one_kept : (t : Bool) (k : ℕ) (x : FieldInfo) (xs : List FieldInfo) → pick t (k + 1) k + length xs ≡ k + length (pick t (x ∷ xs) xs)
one_kept true k x xs = omega arith
one_kept false k x xs = refl

-- one more field, by what the code knows of it
module _ (D : ℕ) (rows : List Row) (line owner w w' code name h a : ℕ) (before tail : List FieldDecl) (f : FieldDecl)
    (ec : code ≡ field_code rows owner before f) (en : name ≡ f.name) (eh : h ≡ head f.ty) (ea : a ≡ arg f.ty) (ew : w' ≡ sized rows w code h a) where
  checks_step : (st : State) → checks D rows line owner w' (before ++ (f ∷ [])) tail (looks D rows line owner w code name h a st) ≡ checks D rows line owner w before (f ∷ tail) st
  unfolding checks
  checks_step st = rw (ew, ec, en, eh, ea) refl

  total_step : total rows owner w' (before ++ (f ∷ [])) tail ≡ total rows owner w before (f ∷ tail)
  unfolding total
  total_step = rw (ew, ec, eh, ea) refl

  kept_step : (k k' : ℕ) → k' ≡ pick (eqb code 0) (k + 1) k
      → k' + length (kept_fields rows owner w' (before ++ (f ∷ [])) tail) ≡ k + length (kept_fields rows owner w before (f ∷ tail))
  unfolding kept_fields
  kept_step k k' ek =
      rw (ek, ew, ec, eh, ea) (one_kept (eqb (field_code rows owner before f) 0) k (record { name = f.name; word = w; ty = f.ty }) (kept_fields rows owner (sized_by rows owner w before f) (before ++ (f ∷ [])) tail))

module _ {ws : List ℕ} {at n line owner : ℕ} {s : Counts} {b d₀ : List ℕ} where
  -- before the first all are left
  pub checking_all : {seen : List ℕ} → s.notes * note_width ≤ length d₀ → Below 1 seen → Checking ws at n line owner s b d₀ (record { counts = s; fields = 0; words = 0 }) at 0 d₀ seen
  checking_all {seen} h B =
      record {
        fit = h;
        kept = refl;
        few = omega arith;
        fields = omega arith;
        upto = omega arith;
        walked = λ ns m v end S e. record { past = rest_all S; mid = λ N D rows notes H. record { state = running rows notes; held = H; marks = marks_none 1 rows owner seen B; left = refl; size = refl; many = omega arith } };
      }

  -- where some are left, the next field stands at a
  pub checking_some : {c : Kept} {a i : ℕ} {d seen : List ℕ} → SomeFields ws at n → Checking ws at n line owner s b d₀ c a i d seen → i < n → SomeTree (one_row FieldRow) ws a
  checking_some {c} {a} {i} {d} {seen} F C h =
      let p = (C.walked F.names F.strings F.tree F.end F.stands F.enough).past in
      let q = next_of p.rest (omega (arith, p.counted, F.enough)) p.there in
      record { names = F.names; strings = F.strings; tree = q.field; end = q.mid; stands = q.here }

  -- and its name's number is below 1,024
  pub checking_name : {c : Kept} {a i : ℕ} {d seen : List ℕ} → SomeFields ws at n → Checking ws at n line owner s b d₀ c a i d seen → i < n → (f : FieldAt) → FieldIs ws a f → f.name < 1024
  checking_name {c} {a} {i} {d} {seen} F C h f I =
      let p = (C.walked F.names F.strings F.tree F.end F.stands F.enough).past in
      next_name p.rest (next_of p.rest (omega (arith, p.counted, F.enough)) p.there) F.few f I

  -- one more looked at
  pub checking_next : {c c' : Kept} {a i : ℕ} {d d' seen seen' : List ℕ} → Checking ws at n line owner s b d₀ c a i d seen → i < n → (f : FieldAt) → FieldIs ws a f → f.name < length seen → (k code : ℕ)
      → k ≡ s.rows → Codes 1 owner k f.name f.ty.head f.ty.arg code b seen seen'
      → Looks line owner code f.name f.ty.head f.ty.arg c c' b d d' → Checking ws at n line owner s b d₀ c' f.next (i + 1) d' seen'
  checking_next {c} {c'} {a} {i} {d} {d'} {seen} {seen'} C h f F within k code ek U L = record { fit = L.fit; kept = L.kept ∙ C.kept; few = L.few; fields = more_fields code c.fields c'.fields i L.more C.fields; upto = omega arith; walked = by }
    where
      by : (ns : List ℕ) (m : ℕ) (v : Tree Expr (many_rows FieldRow)) (end : ℕ) → Stands ws ns m at v end → n ≤ count v → CheckingAt ws ns m v end line owner s b d₀ c' f.next (i + 1) d' seen'
      by ns m v end S e =
          let w = C.walked ns m v end S e in
          let p = w.past in
          let q = next_of p.rest (omega (arith, p.counted)) p.there in
          let g = F.is ns m q.field q.mid q.here in
          let tail : List FieldDecl = rows_of field_decl q.tail in
          let decl : FieldDecl = field_decl q.field in
          record {
            past = rest_next p q f.next g.3;
            mid = λ N D rows notes H.
                let M = w.mid N D rows notes H in
                let holds : Keeps rows c.counts.rows b = subst (λ (k : ℕ). Keeps rows k b) (sym C.kept) H.inside.1 in
                let ec : code ≡ field_code rows owner p.before decl = marks_code 1 rows owner p.before seen M.marks decl f.name g.0 code f.ty.head f.ty.arg g.1 g.2 (U.code rows (subst (λ (j : ℕ). Keeps rows j b) (sym ek) H.inside.1)) in
                let ew : c'.words ≡ sized rows c.words code f.ty.head f.ty.arg = L.size rows holds in
                record {
                  state = looks D rows line owner c.words code f.name f.ty.head f.ty.arg M.state;
                  held = (L.notes rows holds).after b N D M.state M.held;
                  marks = marks_next 1 rows owner p.before seen M.marks decl f.name g.0 code seen' ec within U.marked;
                  left = checks_step D rows line owner c.words c'.words code f.name f.ty.head f.ty.arg p.before tail decl ec g.0 g.1 g.2 ew M.state
                      ∙ ap (λ (l : List FieldDecl). checks D rows line owner c.words p.before l M.state) (sym q.items) ∙ M.left;
                  size = total_step D rows line owner c.words c'.words code f.name f.ty.head f.ty.arg p.before tail decl ec g.0 g.1 g.2 ew
                      ∙ ap (total rows owner c.words p.before) (sym q.items) ∙ M.size;
                  many = kept_step D rows line owner c.words c'.words code f.name f.ty.head f.ty.arg p.before tail decl ec g.0 g.1 g.2 ew c.fields c'.fields L.more
                      ∙ ap (λ (l : List FieldDecl). c.fields + length (kept_fields rows owner c.words p.before l)) (sym q.items) ∙ M.many;
                };
          }

  -- none is left: all were looked at
  pub checking_done : {c : Kept} {a i : ℕ} {d seen : List ℕ} → Checking ws at n line owner s b d₀ c a i d seen → (i < n → ⊥) → Checks ws at n line owner s c b d₀ d
  unfolding checks total kept_fields
  checking_done {c} {a} {i} {d} {seen} C h = record { fit = C.fit; kept = C.kept; upto = omega (arith, C.fields, C.upto); after = by }
    where
      last : i ≡ n
      last = all_of i n C.upto h

      by : (ns : List ℕ) (m : ℕ) (v : Tree Expr (many_rows FieldRow)) (end : ℕ) → Stands ws ns m at v end → count v ≡ n → (N D : ℕ) (rows notes : List Row) → Held N D (running rows notes) s b d₀
          → Held N D (checks D rows line owner 0 [] (rows_of field_decl v) (running rows notes)) c.counts b d × (c.words ≡ total rows owner 0 [] (rows_of field_decl v)) × (c.fields ≡ length (kept_fields rows owner 0 [] (rows_of field_decl v)))
      by ns m v end S e N D rows notes H =
          let w = C.walked ns m v end S (omega arith) in
          let M = w.mid N D rows notes H in
          let z : rows_of field_decl w.past.rest ≡ [] = rest_none w.past (e ∙ sym last) in
          let l : M.state ≡ checks D rows line owner 0 [] (rows_of field_decl v) (running rows notes) =
          ap (λ (l : List FieldDecl). checks D rows line owner c.words w.past.before l M.state) (sym z) ∙ M.left in
          let none : c.fields ≡ c.fields + length (kept_fields rows owner c.words w.past.before []) = omega arith in (
            subst (λ (st : State). Held N D st c.counts b d) l M.held,
            ap (total rows owner c.words w.past.before) (sym z) ∙ M.size,
            none ∙ ap (λ (l : List FieldDecl). c.fields + length (kept_fields rows owner c.words w.past.before l)) (sym z) ∙ M.many,
          )
