-- A token of a scan, by its kind: what it asks of the words and the output, and what is then still to come. Assumes nothing.
use Prim.Native.Nat.{ℕ, suc, ◌+◌, ◌≤◌, ◌<◌}
use native.Mathlib.Nat.{add-zero}
use native.Mathlib.Numerals.{add-one}
use native.Mathlib.Omega.{arith}
use mathlib.Core.Path.{◌≡◌, refl, sym, ap, ap₂, subst, ◌∙◌}
use mathlib.Core.Bool.{Bool, false}
use mathlib.Core.List.{List, [], ◌∷◌, ◌++◌}
use lib.ListN.{length, take, drop, get_or, set, length-drop}
use lib.Seq.{sets, drop-cons, length-take-le}
use Rattle.base_words.specs.Word.{word_of, kind_of, pay_of, pick}
use Rattle.base_words.specs.Sizes.{max_depth}
use Rattle.base_words.specs.Laws.{sets_append}
use Rattle.tree_expr.specs.Expr.{Expr, Call, words, words_all}
use Rattle.tree_expr.proofs.Parts.{wrote_cat}
use Rattle.tree_expr.proofs.Steps.{past}
use Rattle.tree_stmt.specs.Sorts.{number_of}
use Rattle.tree_stmt.specs.Tree.{strings, words_t}
use Rattle.tree_walk.specs.Pieces.{stmt_piece, written}
use Rattle.tree_walk.specs.Items.{Item, expr_item, exprs_item, tree_item, StandsAll, words_i, words_is, RightI, RightIs, written_i, written_is}
use Rattle.tree_walk.proofs.Front.{WordsAt, CallAt, StmtAt, FrontAt, over_at, word_at, raw_at, raws_at, paren_at, call_at, stmt_at, front_at, at_raw, at_raws, at_paren, at_call, at_stmt, items_inside}
use Rattle.tree_walk.proofs.Walk.{head_kind}
use Rattle.rows_table.specs.Rows.{Row, Holds}
use Rattle.rows_runs.specs.Runs.{Keeps}
use Rattle.rows_runs.specs.Laws.{holds_keeps}
use Rattle.rows_kinds.specs.Kinds.{has}
use Rattle.resolve_definition.specs.Tables.{Tables, nowhere, places, element}
use Rattle.resolve_definition.specs.FromRows.{tables_of}
use Rattle.resolve_definition.specs.Resolve.{resolve_expr, resolve_args, resolve_tree, first}
use Rattle.resolve_definition.specs.Keeps.{shorter, shorter_args}
use Rattle.resolve_exprs.specs.Post.{Room, Ready, ReadyAll, Put, Resolved, ResolvedArgs}
use Rattle.resolve_exprs.proofs.Nodes as N
use Rattle.resolve_exprs.proofs.Writing.{call_words, pair_words}
use Rattle.resolve_scan.specs.Post.{resolved, Moved, ReadyToken, DoneToken}
use Rattle.resolve_scan.proofs.Resolved.{no_places, each_args, parted, tree_is}
use Rattle.resolve_scan.proofs.Statements.{stmt_words, in_call, inside_other}

-- ---- places

-- what is asked of rows, scope and room holds at a later place too
pub room_at : {ws buf : List ℕ} {count scope at to size : ℕ} → Room ws buf count scope at to size → (a t : ℕ) → t ≤ a → {size' : ℕ} → size' ≡ size → Room ws buf count scope a t size'
room_at r a t h q = record { rows = r.rows; holds = r.holds; held = r.held; scoped = r.scoped; behind = h; fits = omega (arith, r.fits) }

-- the word there
pub token_inside : {ns ws buf : List ℕ} {count scope at to size : ℕ} → ReadyToken ns ws buf count scope at to size → (at < length ws) × (to < size)
token_inside {ws = ws} {at = at} r =
    let i = items_inside r.there in
    let h : at < length ws = omega (arith, r.before) in
    (h, omega (arith, r.room.behind, r.room.fits))

-- the first words, as they are stored one by one
pub one_word : (ws : List ℕ) (at : ℕ) → at < length ws → take 1 (drop at ws) ≡ get_or ws at 0 ∷ []
one_word ws at h = ap (λ (l : List ℕ). take 1 l) (drop-cons ws at 0 h)

-- two of them
pub two_words : (ws : List ℕ) (at : ℕ) → at + 2 ≤ length ws → take 2 (drop at ws) ≡ get_or ws at 0 ∷ get_or ws (at + 1) 0 ∷ []
two_words ws at h = rw (add-one at) (ap (λ (l : List ℕ). take 2 l) (drop-cons ws at 0 (omega arith) ∙ ap (λ (l : List ℕ). get_or ws at 0 ∷ l) (drop-cons ws (suc at) 0 (omega arith))))

-- and three
pub three_words : (ws : List ℕ) (at : ℕ) → at + 3 ≤ length ws → take 3 (drop at ws) ≡ get_or ws at 0 ∷ get_or ws (at + 1) 0 ∷ get_or ws (at + 2) 0 ∷ []
three_words ws at h =
    let b : at + 2 ≡ suc (suc at) = omega arith in
    rw (add-one at, b) (ap (λ (l : List ℕ). take 3 l) (drop-cons ws at 0 (omega arith) ∙ ap (λ (l : List ℕ). get_or ws at 0 ∷ l) (drop-cons ws (suc at) 0 (omega arith) ∙ ap (λ (l : List ℕ). get_or ws (suc at) 0 ∷ l) (drop-cons ws (suc (suc at)) 0 (omega arith)))))

-- ---- words that are copied

module _ {ns ws : List ℕ} {xs : List Item} {at end c : ℕ} (W : WordsAt ws ns (length ns) max_depth at xs end c) where
  words_inside : at + c ≤ length ws
  words_inside = omega (arith, items_inside W.there)

  copied : (T : Tables) (σ : ℕ) {to : ℕ} {out last : List ℕ} {a t : ℕ} → a ≡ at + c → t ≡ to + c → last ≡ sets out to (take c (drop at ws)) → Moved T σ ns ws xs at end to out a t last
  copied T σ {to} p q e =
      let l : length (take c (drop at ws)) ≡ c = length-take-le c (drop at ws) (omega (arith, length-drop at ws, words_inside)) in
      record { left = W.rest; there = rw p W.there; wrote = take c (drop at ws); upto = omega arith; short = omega arith; is = e; rest = W.writes (resolved T σ) (parted T σ) }

-- c words there, and room for them
taking : {ns ws buf : List ℕ} {count scope at to size c : ℕ} (r : ReadyToken ns ws buf count scope at to size) → WordsAt ws ns (length ns) max_depth at r.items r.end c → (at + c ≤ length ws) × (to + c ≤ size)
taking {ws = ws} {at = at} {c = c} r W =
    let h : at + c ≤ length ws = words_inside W in
    (h, omega (arith, r.room.behind, r.room.fits))

module _ {ns ws buf : List ℕ} {count scope at to size : ℕ} (r : ReadyToken ns ws buf count scope at to size) where
  -- there is room for a literal's head with one raw word
  pub raw_room : 24 ≤ kind_of (get_or ws at 0) → kind_of (get_or ws at 0) ≤ 25 → (at + 2 ≤ length ws) × (to + 2 ≤ size)
  raw_room h l = taking r (at_raw r.there r.before h l)

  -- and for one with two
  pub raws_room : 26 ≤ kind_of (get_or ws at 0) → kind_of (get_or ws at 0) ≤ 27 → (at + 3 ≤ length ws) × (to + 3 ≤ size)
  raws_room h l = taking r (at_raws r.there r.before h l)

-- a literal's head with one raw word, and with two
pub raw_done : {ns ws buf out last : List ℕ} {count scope at to a t : ℕ} → 24 ≤ kind_of (get_or ws at 0) → kind_of (get_or ws at 0) ≤ 25 → (a ≡ at + 2) × (t ≡ to + 2) × (last ≡ sets out to (get_or ws at 0 ∷ get_or ws (at + 1) 0 ∷ [])) → DoneToken ns ws buf out last count scope at to a t
raw_done {ws = ws} {out = out} {scope = scope} {at} {to} h l e = record {
  gives = λ rs H xs end s z.
      let W = at_raw s z h l in
      (copied W (tables_of rs) scope e.0 e.1 (e.2 ∙ ap (λ (k : List ℕ). sets out to k) (sym (two_words ws at (words_inside W)))), omega (arith, e.0));
}

-- with two
pub raws_done : {ns ws buf out last : List ℕ} {count scope at to a t : ℕ} → 26 ≤ kind_of (get_or ws at 0) → kind_of (get_or ws at 0) ≤ 27 → (a ≡ at + 3) × (t ≡ to + 3) × (last ≡ sets out to (get_or ws at 0 ∷ get_or ws (at + 1) 0 ∷ get_or ws (at + 2) 0 ∷ [])) → DoneToken ns ws buf out last count scope at to a t
raws_done {ws = ws} {out = out} {scope = scope} {at} {to} h l e = record {
  gives = λ rs H xs end s z.
      let W = at_raws s z h l in
      (copied W (tables_of rs) scope e.0 e.1 (e.2 ∙ ap (λ (k : List ℕ). sets out to k) (sym (three_words ws at (words_inside W)))), omega (arith, e.0));
}

-- ---- parentheses

-- a pair that is no argument's goes: nothing is written
pub paren_done : {ns ws buf out : List ℕ} {count scope at to : ℕ} → kind_of (get_or ws at 0) ≡ 23 → DoneToken ns ws buf out out count scope at to (at + 1) to
unfolding written_i written_is
paren_done {scope = scope} {at} {to} h = record {
  gives = λ rs H xs end s z.
      let P = at_paren s z h in
      let T : Tables = tables_of rs in (
        record {
          left = expr_item P.inner ∷ P.rest;
          there = P.there;
          wrote = [];
          upto = sym (add-zero to);
          short = omega arith;
          is = refl;
          rest = P.writes (resolved T scope) (parted T scope) ∙ ap (λ (l : List ℕ). l ++ written_is (resolved T scope) P.rest) (pair_words T scope P.inner);
        },
        omega arith,
      );
}

-- ---- a plain word, a statement's head among them

-- neither a call, parentheses, a literal with raw words, a SUB, a FUNCTION nor a CALL
pub record Plain (k : ℕ) : Type 0 where
  pub no_call : k ≡ 21 → ⊥
  pub no_raw : 23 ≤ k → k < 28 → ⊥
  pub no_procedure : 84 ≤ k → k < 87 → ⊥

-- by the kinds that it is not
pub is_plain : (k : ℕ) → (k ≡ 21 → ⊥) → (k ≡ 23 → ⊥) → (k ≡ 24 → ⊥) → (k ≡ 25 → ⊥) → (k ≡ 26 → ⊥) → (k ≡ 27 → ⊥) → (k ≡ 84 → ⊥) → (k ≡ 85 → ⊥) → (k ≡ 86 → ⊥) → Plain k
is_plain k a b c d e f g h i = record { no_call = a; no_raw = λ x y. five x y (past 27 k (past 26 k (past 25 k (past 24 k (past 23 k x b) c) d) e) f); no_procedure = λ x y. three x y (past 86 k (past 85 k (past 84 k x g) h) i) }
  where
    five : 23 ≤ k → k < 28 → 28 ≤ k → ⊥
    five x y z = omega (arith, y, z)

    three : 84 ≤ k → k < 87 → 87 ≤ k → ⊥
    three x y z = omega (arith, y, z)

-- the kinds below 21 are such
pub low_plain : (k : ℕ) → k < 21 → Plain k
low_plain k h = record { no_call = λ e. omega (arith, e, h); no_raw = λ x y. omega (arith, x, h); no_procedure = λ x y. omega (arith, x, h) }

-- a statement that has no scope of its own: its head, and then its fields
stmt_moved : {ns ws : List ℕ} {xs : List Item} {at end : ℕ} → StmtAt ws ns (length ns) max_depth at xs end → (84 ≤ kind_of (get_or ws at 0) → kind_of (get_or ws at 0) < 87 → ⊥) → (T : Tables) (σ : ℕ) {to : ℕ} (out : List ℕ) → Moved T σ ns ws xs at end to out (at + 1) (to + 1) (set out to (get_or ws at 0))
unfolding written_i written_is
stmt_moved {ws = ws} {xs} {at} S p T σ {to} out =
    let s = S.whole in
    let k = head_kind s in
    let a : number_of S.kind ≡ 20 → ⊥ = λ q. p (omega arith) (omega arith) in
    let b : number_of S.kind ≡ 21 → ⊥ = λ q. p (omega arith) (omega arith) in
    let g = resolved T σ in
    let is : g (stmt_piece S.kind S.line S.fields) ≡ get_or ws at 0 ∷ written g S.fields =
    stmt_words s (λ q. p (omega arith) (omega arith)) T σ
    ∙ ap (λ (i : ℕ). get_or ws at 0 ∷ words_t (resolve_tree T i nowhere S.fields)) (inside_other σ S.kind (first S.fields) a b)
    ∙ ap (λ (l : List ℕ). get_or ws at 0 ∷ l) (tree_is T σ S.fields) in
    record {
      left = tree_item S.fields ∷ S.rest;
      there = S.there;
      wrote = get_or ws at 0 ∷ [];
      upto = refl;
      short = omega arith;
      is = refl;
      rest = S.writes g (parted T σ) ∙ ap (λ (l : List ℕ). l ++ written_is g S.rest) is;
    }

plain_done : {ns ws buf out : List ℕ} {count scope at to : ℕ} → Plain (kind_of (get_or ws at 0)) → DoneToken ns ws buf out (set out to (get_or ws at 0)) count scope at to (at + 1) (to + 1)
plain_done {ns} {ws} {buf} {out} {count} {scope} {at} {to} p = record { gives = λ rs H xs end s z. (go rs xs end s z (front_at s), omega arith) }
  where
    go : (rs : List Row) (xs : List Item) (end : ℕ) → StandsAll ws ns (length ns) max_depth at xs end → at < end → FrontAt ws ns (length ns) max_depth at xs end → Moved (tables_of rs) scope ns ws xs at end to out (at + 1) (to + 1) (set out to (get_or ws at 0))
    go rs xs end s z (over_at q a b) = absurd (omega arith)
    go rs xs end s z (word_at k W) = copied W (tables_of rs) scope refl refl (ap (λ (l : List ℕ). sets out to l) (sym (one_word ws at (omega (arith, items_inside s)))))
    go rs xs end s z (raw_at a b W) = absurd (p.no_raw (omega (arith, a)) (omega (arith, b)))
    go rs xs end s z (raws_at a b W) = absurd (p.no_raw (omega (arith, a)) (omega (arith, b)))
    go rs xs end s z (paren_at k W) = absurd (p.no_raw (omega (arith, k)) (omega (arith, k)))
    go rs xs end s z (call_at k W) = absurd (p.no_call k)
    go rs xs end s z (stmt_at a b S) = stmt_moved S p.no_procedure (tables_of rs) scope out

-- the same of a word that was copied
pub one_done : {ns ws buf out last : List ℕ} {count scope at to a t : ℕ} → Plain (kind_of (get_or ws at 0)) → (a ≡ at + 1) × (t ≡ to + 1) × (last ≡ set out to (get_or ws at 0)) → DoneToken ns ws buf out last count scope at to a t
one_done p e = rw (e.0, e.1, e.2) (plain_done p)

-- ---- calls and CALLs

-- the head that a call is written with
abbrev pub called_head : Tables → ℕ → ℕ → ℕ
called_head T σ f = word_of (pick (element T σ f) 18 21) 0

-- its name, the head of its list and its arguments, which are written after h
pub record HeadAt (h : Tables → ℕ → ℕ → ℕ) (ws ns : List ℕ) (at : ℕ) (xs : List Item) (end : ℕ) : Type 0 where
  pub mid : ℕ
  pub parts : N.Called ws (strings ns (length ns)) at mid
  pub rest : List Item
  pub after : StandsAll ws ns (length ns) max_depth mid rest end
  pub writes : (T : Tables) (σ : ℕ) → written_is (resolved T σ) xs ≡ h T σ parts.name ∷ get_or ws (at + 1) 0 ∷ get_or ws (at + 2) 0 ∷ (words_all (resolve_args T σ (places T parts.name) parts.args) ++ written_is (resolved T σ) rest)

module _ {ws ns : List ℕ} {at : ℕ} {xs : List Item} {end : ℕ} (s : StandsAll ws ns (length ns) max_depth at xs end) (z : at < end) where
  -- a call in an expression, whose head may change
  pub call_head : kind_of (get_or ws at 0) ≡ 21 → HeadAt called_head ws ns at xs end
  call_head k =
      let C = at_call s z k in
      let D = N.in_call k C.whole in
      record {
        mid = C.mid;
        parts = D.parts;
        rest = C.rest;
        after = C.after;
        writes = λ T σ. C.writes (resolved T σ) (parted T σ) ∙ ap (λ (l : List ℕ). l ++ written_is (resolved T σ) C.rest) (ap (λ (e : Expr). words (resolve_expr T σ e)) D.is ∙ call_words T σ D.parts.name D.parts.args ∙ ap₂ (λ (x y : ℕ). called_head T σ D.parts.name ∷ x ∷ y ∷ words_all (resolve_args T σ (places T D.parts.name) D.parts.args)) (sym D.parts.called) (sym D.parts.listed));
      }

  -- a CALL, whose head stays
  pub calling_head : kind_of (get_or ws at 0) ≡ 86 → HeadAt (λ T σ f. get_or ws at 0) ws ns at xs end
  calling_head k =
      let S = at_stmt s z (omega (arith, k)) (omega (arith, k)) in
      let D = in_call k S.whole in
      record {
        mid = S.mid;
        parts = D.parts;
        rest = S.rest;
        after = S.after;
        writes = λ T σ. S.writes (resolved T σ) (parted T σ) ∙ ap (λ (l : List ℕ). l ++ written_is (resolved T σ) S.rest) (D.is T σ);
      }

module _ {h : Tables → ℕ → ℕ → ℕ} {ws ns : List ℕ} {at : ℕ} {xs : List Item} {end : ℕ} (C : HeadAt h ws ns at xs end) where
  -- of no procedure: the arguments are still to come
  head_moved : (T : Tables) (σ : ℕ) {w to : ℕ} {out last : List ℕ} {a t : ℕ} → T.procedure C.parts.name ≡ false → w ≡ h T σ C.parts.name → a ≡ at + 3 → t ≡ to + 3 → last ≡ sets out to (w ∷ get_or ws (at + 1) 0 ∷ get_or ws (at + 2) 0 ∷ []) → Moved T σ ns ws xs at end to out a t last
  unfolding words_i words_is RightI RightIs written_i written_is
  head_moved T σ {w} {to} f e p q n =
      let s = C.parts.there in
      let r = C.after in
      record {
        left = exprs_item C.parts.args ∷ C.rest;
        there = record { wrote = rw p (wrote_cat s.wrote r.wrote); valid = (s.valid, r.valid) };
        wrote = w ∷ get_or ws (at + 1) 0 ∷ get_or ws (at + 2) 0 ∷ [];
        upto = q;
        short = omega arith;
        is = n;
        rest = C.writes T σ ∙ ap₂ (λ (x : ℕ) (l : List ℕ). x ∷ get_or ws (at + 1) 0 ∷ get_or ws (at + 2) 0 ∷ (l ++ written_is (resolved T σ) C.rest)) (sym e) (ap (λ (m : ℕ → Bool). words_all (resolve_args T σ m C.parts.args)) (no_places T C.parts.name f) ∙ each_args T σ C.parts.args);
      }

  -- of a procedure: the arguments are resolved with it
  args_moved : (T : Tables) (σ : ℕ) {to : ℕ} {out one last : List ℕ} {a t : ℕ} → one ≡ sets out to (h T σ C.parts.name ∷ get_or ws (at + 1) 0 ∷ get_or ws (at + 2) 0 ∷ []) → Put (words_all (resolve_args T σ (places T C.parts.name) C.parts.args)) one last (to + 3) a t C.mid → Moved T σ ns ws xs at end to out a t last
  args_moved T σ {to} {out} {one} n d =
      let s = C.parts.there in
      let y : List ℕ = words_all (resolve_args T σ (places T C.parts.name) C.parts.args) in
      let x : List ℕ = h T σ C.parts.name ∷ get_or ws (at + 1) 0 ∷ get_or ws (at + 2) 0 ∷ [] in
      record {
        left = C.rest;
        there = rw d.past C.after;
        wrote = x ++ y;
        upto = omega (arith, d.upto);
        short = omega (arith, d.past, s.wrote.span, shorter_args T σ (places T C.parts.name) C.parts.args);
        is = d.now ∙ ap (λ (l : List ℕ). sets l (to + 3) y) n ∙ sym (sets_append x y out to);
        rest = C.writes T σ;
      }

-- a call of a procedure, by the resolver of expressions
whole_moved : {ws ns : List ℕ} {at : ℕ} {xs : List Item} {end : ℕ} (C : CallAt ws ns (length ns) max_depth at xs end) (T : Tables) (σ : ℕ) {to : ℕ} {out last : List ℕ} {a t : ℕ} → Put (words (resolve_expr T σ (Call C.name C.args))) out last to a t C.mid → Moved T σ ns ws xs at end to out a t last
whole_moved C T σ d =
    let s = C.whole in
    record {
      left = C.rest;
      there = rw d.past C.after;
      wrote = words (resolve_expr T σ (Call C.name C.args));
      upto = d.upto;
      short = omega (arith, d.past, s.wrote.span, shorter T σ (Call C.name C.args));
      is = d.now;
      rest = C.writes (resolved T σ) (parted T σ);
    }

-- what is asked of the rows
pub not_procedure : (f : ℕ) {count : ℕ} {buf : List ℕ} {b : Bool} → ((rs : List Row) → Keeps rs count buf → b ≡ has rs 135 f 0) → b ≡ false → (rs : List Row) → Holds rs count buf → (tables_of rs).procedure f ≡ false
unfolding tables_of
not_procedure f g e rs H = sym (g rs (holds_keeps H)) ∙ e

-- a call of no procedure: its head is an element's where the name is a visible array
pub array_head : (scope f : ℕ) {count w : ℕ} {buf : List ℕ} {b : Bool} → w ≡ word_of (pick b 18 21) 0 → ((rs : List Row) → Holds rs count buf → b ≡ (tables_of rs).array scope f) → ((rs : List Row) → Holds rs count buf → (tables_of rs).procedure f ≡ false)
    → (rs : List Row) → Holds rs count buf → w ≡ called_head (tables_of rs) scope f
unfolding element
array_head scope f {b = b} e a n rs H =
    let is : b ≡ element (tables_of rs) scope f = rw (n rs H) (a rs H) in
    e ∙ ap (λ (x : Bool). word_of (pick x 18 21) 0) is

module _ {ns ws buf : List ℕ} {count scope at to size : ℕ} (r : ReadyToken ns ws buf count scope at to size) where
  head_room : {h : Tables → ℕ → ℕ → ℕ} → HeadAt h ws ns at r.items r.end → (at + 3 ≤ length ws) × (to + 3 ≤ size)
  head_room C =
      let x : at + 3 ≤ length ws = N.head_inside C.parts in
      (x, omega (arith, r.room.behind, r.room.fits))

  -- there is room for a call's first three words
  pub call_room : kind_of (get_or ws at 0) ≡ 21 → (at + 3 ≤ length ws) × (to + 3 ≤ size)
  call_room k = head_room (call_head r.there r.before k)

  -- and for those of a CALL
  pub calling_room : kind_of (get_or ws at 0) ≡ 86 → (at + 3 ≤ length ws) × (to + 3 ≤ size)
  calling_room k = head_room (calling_head r.there r.before k)

  -- a call may be resolved
  pub ready_call : kind_of (get_or ws at 0) ≡ 21 → Ready ws buf count scope at to size
  ready_call k =
      let C = at_call r.there r.before k in
      record { some = record { strings = strings ns (length ns); tree = Call C.name C.args; end = C.mid; stands = C.whole }; room = r.room }

  -- so may the arguments of a CALL
  pub ready_args : kind_of (get_or ws at 0) ≡ 86 → {size' a t : ℕ} → size' ≡ size → a ≡ at + 3 → t ≡ to + 3 → ReadyAll ws buf count scope a t size' (pay_of (get_or ws (at + 2) 0))
  ready_args k {size'} {a} {t} q x y =
      let C = calling_head r.there r.before k in
      record { strings = strings ns (length ns); trees = C.parts.args; end = C.mid; stands = rw x C.parts.there; counted = N.many_is C.parts; room = room_at r.room a t (omega (arith, x, y, r.room.behind)) q }

module _ {ns ws buf out : List ℕ} {count scope at to : ℕ} where
  -- the head alone
  heads_done : {h : Tables → ℕ → ℕ → ℕ} {last : List ℕ} {w a t : ℕ} → ((xs : List Item) (end : ℕ) → StandsAll ws ns (length ns) max_depth at xs end → at < end → HeadAt h ws ns at xs end)
      → ((rs : List Row) → Holds rs count buf → (tables_of rs).procedure (pay_of (get_or ws (at + 1) 0)) ≡ false) → ((rs : List Row) → Holds rs count buf → w ≡ h (tables_of rs) scope (pay_of (get_or ws (at + 1) 0)))
      → (a ≡ at + 3) × (t ≡ to + 3) × (last ≡ sets out to (w ∷ get_or ws (at + 1) 0 ∷ get_or ws (at + 2) 0 ∷ [])) → DoneToken ns ws buf out last count scope at to a t
  heads_done {h} H₀ f g e = record {
    gives = λ rs H xs end s z.
        let C = H₀ xs end s z in
        (head_moved C (tables_of rs) scope (ap (λ (x : ℕ). (tables_of rs).procedure x) (sym (N.name_is C.parts)) ∙ f rs H) (g rs H ∙ ap (λ (x : ℕ). h (tables_of rs) scope x) (N.name_is C.parts)) e.0 e.1 e.2, omega (arith, e.0));
  }

  -- a call of no procedure: its first three words are written, its arguments are still to come
  pub call_head_done : {last : List ℕ} {w a t : ℕ} → kind_of (get_or ws at 0) ≡ 21 → ((rs : List Row) → Holds rs count buf → (tables_of rs).procedure (pay_of (get_or ws (at + 1) 0)) ≡ false) → ((rs : List Row) → Holds rs count buf → w ≡ called_head (tables_of rs) scope (pay_of (get_or ws (at + 1) 0)))
      → (a ≡ at + 3) × (t ≡ to + 3) × (last ≡ sets out to (w ∷ get_or ws (at + 1) 0 ∷ get_or ws (at + 2) 0 ∷ [])) → DoneToken ns ws buf out last count scope at to a t
  call_head_done k f g e = heads_done {h = called_head} (λ xs end s z. call_head s z k) f g e

  -- the same of a CALL of no procedure
  pub calling_head_done : {last : List ℕ} {a t : ℕ} → kind_of (get_or ws at 0) ≡ 86 → ((rs : List Row) → Holds rs count buf → (tables_of rs).procedure (pay_of (get_or ws (at + 1) 0)) ≡ false)
      → (a ≡ at + 3) × (t ≡ to + 3) × (last ≡ sets out to (get_or ws at 0 ∷ get_or ws (at + 1) 0 ∷ get_or ws (at + 2) 0 ∷ [])) → DoneToken ns ws buf out last count scope at to a t
  calling_head_done k f e = heads_done {h = λ T σ f. get_or ws at 0} (λ xs end s z. calling_head s z k) f (λ rs H. refl) e

  -- a whole call resolved
  pub call_done : {last : List ℕ} {a t : ℕ} → kind_of (get_or ws at 0) ≡ 21 → Resolved ws buf out last count scope at to a t → DoneToken ns ws buf out last count scope at to a t
  call_done k d = record {
    gives = λ rs H xs end s z.
        let C = at_call s z k in
        let e = d.gives rs H (strings ns (length ns)) (Call C.name C.args) C.mid C.whole in
        (whole_moved C (tables_of rs) scope e, omega (arith, e.past, N.moves C.whole));
  }

  -- a CALL with its arguments resolved
  pub calling_done : {one last : List ℕ} {a₀ t₀ a t : ℕ} → kind_of (get_or ws at 0) ≡ 86 → (a₀ ≡ at + 3) × (t₀ ≡ to + 3) × (one ≡ sets out to (get_or ws at 0 ∷ get_or ws (at + 1) 0 ∷ get_or ws (at + 2) 0 ∷ [])) → ResolvedArgs (pay_of (get_or ws (at + 1) 0)) (pay_of (get_or ws (at + 2) 0)) ws buf one last count scope a₀ t₀ a t → DoneToken ns ws buf out last count scope at to a t
  calling_done {one} {last} {a₀} {t₀} {a} {t} k n d = record {
    gives = λ rs H xs end s z.
        let T : Tables = tables_of rs in
        let C = calling_head s z k in
        let u = C.parts.there in
        let e = d.gives rs H (strings ns (length ns)) C.parts.args C.mid (rw n.0 C.parts.there) (N.many_is C.parts) in
        let e' : Put (words_all (resolve_args T scope (places T C.parts.name) C.parts.args)) one last (to + 3) a t C.mid = subst (λ (f : ℕ). Put (words_all (resolve_args T scope (places T f) C.parts.args)) one last (to + 3) a t C.mid) (N.name_is C.parts) (rw n.1 at e) in
        (args_moved C T scope n.2 e', omega (arith, e.past, u.wrote.span));
  }
