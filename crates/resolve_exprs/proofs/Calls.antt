-- What the calls inside `resolve_expr` and `resolve_args` require, and what they make together. Assumes nothing.
use Prim.Native.Nat.{ℕ, ◌+◌, ◌≤◌, ◌<◌}
use native.Mathlib.Nat.{add-zero}
use native.Mathlib.Omega.{arith}
use mathlib.Core.Path.{◌≡◌, sym, ap, ap₂, ◌∙◌}
use mathlib.Core.List.{List, [], ◌∷◌, ◌++◌, append_assoc}
use lib.ListN.{length, take, drop, get_or, length-append}
use lib.Seq.{sets, take-append_seam}
use Rattle.base_words.specs.Word.{word_of, kind_of, pay_of, pick}
use Rattle.base_words.specs.Laws.{sets_append}
use Rattle.tree_expr.specs.Expr.{Strings, Expr, many, words, words_all}
use Rattle.tree_expr.specs.Stands.{Wrote, Stands}
use Rattle.tree_expr.proofs.Nodes.{kind_of_lem}
use Rattle.tree_skip.specs.Shape.{SomeExpr, children, Shaped}
use Rattle.tree_skip.specs.declared.Shape.{Shape}
use Rattle.tree_skip.proofs.Laws.{ShapedAt, front_some}
use Rattle.rows_table.specs.Rows.{Row, Holds}
use Rattle.resolve_definition.specs.Tables.{Tables, Places, places, nowhere, element}
use Rattle.resolve_definition.specs.FromRows.{tables_of}
use Rattle.resolve_definition.specs.Resolve.{resolve_expr, resolve_args}
use Rattle.resolve_exprs.specs.Node.{front, back, bare}
use Rattle.resolve_exprs.specs.Post.{Some, Ready, ReadyAll, Put, Resolved, ResolvedArgs, Paired}
use Rattle.resolve_exprs.proofs.Nodes.{node, inside, before, after, moves, name_is, many_is, head_inside, in_call, in_pair}
use Rattle.resolve_exprs.proofs.Writing.{stands_bare, call_words, pair_words, node_words}
use Rattle.resolve_exprs.proofs.Pairs.{unpaired}
use Rattle.resolve_exprs.proofs.Lists.{Part, Walked, part_start, part_next, part_step, part_end}

-- ---- one member of a list after another

-- none is resolved
pub list_start : (m : Tables → Places) (k : ℕ) (ws buf out : List ℕ) (count scope at to : ℕ) → Walked m k ws buf out count scope at to at to 0 out
list_start m k ws buf out count scope at to = record { gives = λ rows H n es end s q. part_start (tables_of rows) scope (m (tables_of rows)) to out s }

-- where the next one stands
pub record Here (ws : List ℕ) (at size a t : ℕ) : Type 0 where
  pub some : Some ws a
  pub from : at ≤ a
  pub behind : t ≤ a
  pub inside : a < length ws
  pub room : t < size

module _ {m : Tables → Places} {k : ℕ} {ws buf out : List ℕ} {count scope at to size a t i : ℕ} {now : List ℕ} (r : ReadyAll ws buf count scope at to size k) (w : Walked m k ws buf out count scope at to a t i now) where
  own : Part (tables_of r.room.rows) scope (m (tables_of r.room.rows)) ws r.strings r.trees at r.end to out a t i now
  own = w.gives r.room.rows r.room.holds r.strings r.trees r.end r.stands r.counted

  -- the next one stands at a, within the words, and has room
  pub here : i < k → Here ws at size a t
  here h =
      let N = part_next own (omega (arith, r.counted)) in
      let M = moves N.there in
      let b : t ≤ a = omega (arith, own.upto, own.short, r.room.behind) in
      let j : a < length ws = omega (arith, M) in
      record { some = record { strings = r.strings; tree = N.head; end = N.mid; stands = N.there }; from = omega (arith, own.short); behind = b; inside = j; room = omega (arith, r.room.fits) }

  -- what the resolver of expressions requires there, after the pair
  pub ready_next : {mid : List ℕ} {h size' : ℕ} → i < k → Paired (λ T. m T i) ws buf now mid count a t h → size' ≡ size → Ready ws buf count scope (a + h) (t + h) size'
  ready_next {mid} {h} {size'} z p q =
      let N = part_next own (omega (arith, r.counted)) in
      let d = p.gives r.room.rows r.room.holds r.strings N.head N.mid N.there in
      let b = stands_bare (m (tables_of r.room.rows) i) N.there in
      let H = here z in
      record {
        some = record { strings = r.strings; tree = bare (m (tables_of r.room.rows) i) N.head; end = N.mid; stands = rw d.0 b };
        room = record { rows = r.room.rows; holds = r.room.holds; held = r.room.held; scoped = r.room.scoped; behind = omega (arith, H.behind); fits = omega (arith, r.room.fits) };
      }

  -- where the last one ends
  pub ended : k ≤ i → (a ≡ r.end) × (t ≤ a)
  ended h =
      let d = part_end own (omega (arith, r.counted)) in
      (d.past, omega (arith, own.upto, own.short, r.room.behind))

-- the next one resolved
pub list_step : {m : Tables → Places} {k : ℕ} {ws buf out : List ℕ} {count scope at to a t i : ℕ} {now : List ℕ} → Walked m k ws buf out count scope at to a t i now → {mid last : List ℕ} {h a' t' : ℕ} → i < k → Paired (λ T. m T i) ws buf now mid count a t h → Resolved ws buf mid last count scope (a + h) (t + h) a' t' → Walked m k ws buf out count scope at to a' t' (i + 1) last
list_step {m} {k} {ws} {buf} {out} {count} {scope} {at} {to} {a} {t} {i} {now} w {mid} {last} {h} z p d = record {
  gives = λ rows H n es end s q.
      let P = w.gives rows H n es end s q in
      let N = part_next P (omega (arith, q)) in
      let e = p.gives rows H n N.head N.mid N.there in
      let b = stands_bare (m (tables_of rows) i) N.there in
      part_step P N e.0 e.1 (d.gives rows H n (bare (m (tables_of rows) i) N.head) N.mid (rw e.0 b));
}

-- a member that is no argument has no pair
pub ready_plain : {k : ℕ} {ws buf out : List ℕ} {count scope at to size size' a t i : ℕ} {now : List ℕ} → ReadyAll ws buf count scope at to size k → Walked (λ T. nowhere) k ws buf out count scope at to a t i now → i < k → size' ≡ size → Ready ws buf count scope a t size'
ready_plain {ws = ws} {buf} {count = count} {scope} {size' = size'} {a} {t} {i} {now} r w z q =
    let x = ready_next r w z (unpaired i ws buf now count a t) q in
    rw (add-zero a, add-zero t) at x

-- the next one that is no argument resolved
pub plain_step : {k : ℕ} {ws buf out : List ℕ} {count scope at to a t i : ℕ} {now last : List ℕ} {a' t' : ℕ} → Walked (λ T. nowhere) k ws buf out count scope at to a t i now → i < k → Resolved ws buf now last count scope a t a' t' → Walked (λ T. nowhere) k ws buf out count scope at to a' t' (i + 1) last
plain_step {ws = ws} {buf} {count = count} {a = a} {t} {i} {now} w z d = list_step w z (unpaired i ws buf now count a t) (rw (add-zero a, add-zero t) d)

-- all are resolved
pub args_done : {f k : ℕ} {ws buf out : List ℕ} {count scope at to a t i : ℕ} {now : List ℕ} → Walked (λ T. places T f) k ws buf out count scope at to a t i now → k ≤ i → ResolvedArgs f k ws buf out now count scope at to a t
args_done w h = record { gives = λ rows H n es end s q. part_end (w.gives rows H n es end s q) (omega (arith, q)) }

-- ---- a pair that goes

-- what stands in it may be resolved, at the same place of the output
pub ready_pair : {ws buf : List ℕ} {count scope at to size size' : ℕ} → Ready ws buf count scope at to size → kind_of (get_or ws at 0) ≡ 23 → size' ≡ size → Ready ws buf count scope (at + 1) to size'
ready_pair r q z =
    let P = in_pair q r.some.stands in
    record {
      some = record { strings = r.some.strings; tree = P.arg; end = r.some.end; stands = P.there };
      room = record { rows = r.room.rows; holds = r.room.holds; held = r.room.held; scoped = r.room.scoped; behind = omega (arith, r.room.behind); fits = omega (arith, r.room.fits) };
    }

-- and that is the whole
pub pair_done : {ws buf out last : List ℕ} {count scope at to a t : ℕ} → kind_of (get_or ws at 0) ≡ 23 → Resolved ws buf out last count scope (at + 1) to a t → Resolved ws buf out last count scope at to a t
pair_done {ws} {buf} {out} {last} {count} {scope} q d = record {
  gives = λ rows H n e end s.
      let P = in_pair q s in
      rw (P.is, pair_words (tables_of rows) scope P.arg) (d.gives rows H n P.arg end P.there);
}

-- ---- a call

-- its arguments may be resolved, after its first three words
pub ready_call : {ws buf : List ℕ} {count scope at to size size' a t : ℕ} → Ready ws buf count scope at to size → kind_of (get_or ws at 0) ≡ 21 → size' ≡ size → a ≡ at + 3 → t ≡ to + 3 → ReadyAll ws buf count scope a t size' (pay_of (get_or ws (at + 2) 0))
ready_call r q z x y =
    let C = (in_call q r.some.stands).parts in
    record {
      strings = r.some.strings;
      trees = C.args;
      end = r.some.end;
      stands = rw x C.there;
      counted = many_is C;
      room = record { rows = r.room.rows; holds = r.room.holds; held = r.room.held; scoped = r.room.scoped; behind = omega (arith, r.room.behind); fits = omega (arith, r.room.fits) };
    }

-- for these there is room
pub call_room : {ws buf : List ℕ} {count scope at to size : ℕ} → Ready ws buf count scope at to size → kind_of (get_or ws at 0) ≡ 21 → (at + 3 ≤ length ws) × (to + 3 ≤ size)
call_room {ws} {at = at} r q =
    let l : at + 3 ≤ length ws = head_inside (in_call q r.some.stands).parts in
    (l, omega (arith, r.room.behind, r.room.fits))

-- its head by the rows, its name and list's head copied, its arguments resolved: the call is
pub call_done : {ws buf out mid last : List ℕ} {count scope at to a₀ t₀ a t h : ℕ} → kind_of (get_or ws at 0) ≡ 21 → ((rows : List Row) → Holds rows count buf → h ≡ word_of (pick (element (tables_of rows) scope (pay_of (get_or ws (at + 1) 0))) 18 21) 0) → (a₀ ≡ at + 3) × (t₀ ≡ to + 3) × (mid ≡ sets out to (h ∷ get_or ws (at + 1) 0 ∷ get_or ws (at + 2) 0 ∷ [])) → ResolvedArgs (pay_of (get_or ws (at + 1) 0)) (pay_of (get_or ws (at + 2) 0)) ws buf mid last count scope a₀ t₀ a t → Resolved ws buf out last count scope at to a t
call_done {ws} {buf} {out} {mid} {last} {count} {scope} {at} {to} {a₀} {t₀} {a} {t} {h} q hh b d = record { gives = λ rows H n e end s. go rows H n e end s }
  where
    go : (rows : List Row) → Holds rows count buf → (n : Strings) (e : Expr) (end : ℕ) → Stands ws n at e end → Put (words (resolve_expr (tables_of rows) scope e)) out last to a t end
    go rows H n e end s =
        let I = in_call q s in
        let C = I.parts in
        let T : Tables = tables_of rows in
        let f : ℕ = C.name in
        let name : pay_of (get_or ws (at + 1) 0) ≡ f = name_is C in
        let args = d.gives rows H n C.args end (rw b.0 C.there) (many_is C) in
        let y : List ℕ = words_all (resolve_args T scope (places T f) C.args) in
        let yy : words_all (resolve_args T scope (places T (pay_of (get_or ws (at + 1) 0))) C.args) ≡ y = ap (λ (g : ℕ). words_all (resolve_args T scope (places T g) C.args)) name in
        let head : h ≡ word_of (pick (element T scope f) 18 21) 0 = hh rows H ∙ ap (λ (g : ℕ). word_of (pick (element T scope g) 18 21) 0) name in
        let x : List ℕ = word_of (pick (element T scope f) 18 21) 0 ∷ word_of 2 f ∷ word_of 1 (many C.args) ∷ [] in
        let xx : mid ≡ sets out to x = b.2 ∙ ap (λ (g : ℕ). sets out to (g ∷ get_or ws (at + 1) 0 ∷ get_or ws (at + 2) 0 ∷ [])) head ∙ ap₂ (λ (g l : ℕ). sets out to (word_of (pick (element T scope f) 18 21) 0 ∷ g ∷ l ∷ [])) C.called C.listed in
        let whole : words (resolve_expr T scope e) ≡ x ++ y = ap (λ (g : Expr). words (resolve_expr T scope g)) I.is ∙ call_words T scope f C.args in
        record {
          past = args.past;
          upto = rw whole (simp length-append (omega (arith, b.1, args.upto, ap length yy)));
          now = rw whole (args.now ∙ ap₂ (λ (j : ℕ) (l : List ℕ). sets mid j l) b.1 yy ∙ ap (λ (l : List ℕ). sets l (to + 3) y) xx ∙ sym (sets_append x y out to));
        }

-- ---- any other node

-- some expression, as the code that skips has it
pub some_expr : {ws : List ℕ} {at : ℕ} → Some ws at → SomeExpr ws at
some_expr s = record { strings = s.strings; expr = s.tree; end = s.end; stands = s.stands }

module _ {ws buf : List ℕ} {count scope at to size : ℕ} {f : Shape} (r : Ready ws buf count scope at to size) (g : ShapedAt ws at f) where
  -- the shape that the code found is the expression's
  pub shape : Shaped r.some.tree f
  shape = g r.some.strings r.some.tree r.some.end r.some.stands

  -- a node's children stand past it
  pub beyond : 0 < f.front
  beyond = front_some (some_expr r.some) g

  -- for the words before its children there is room
  pub front_room : (at + f.front ≤ length ws) × (to + f.front ≤ size)
  front_room =
      let l = simp length-append at (ap length (node r.some.tree)) in
      let x : at + f.front ≤ length ws = omega (arith, before shape, r.some.stands.wrote.span, r.some.stands.wrote.inside) in
      (x, omega (arith, r.room.behind, r.room.fits))

  -- its children may be resolved after them
  unfoldable pub ready_kids : {size' a t : ℕ} → size' ≡ size → a ≡ at + f.front → t ≡ to + f.front → ReadyAll ws buf count scope a t size' f.children
  ready_kids q x y =
      let I = inside r.some.stands in
      let i = I.there in
      record {
        strings = r.some.strings;
        trees = children r.some.tree;
        end = I.mid;
        stands = rw (x, before shape) i;
        counted = sym shape.children_is;
        room = record { rows = r.room.rows; holds = r.room.holds; held = r.room.held; scoped = r.room.scoped; behind = omega (arith, r.room.behind); fits = omega (arith, r.room.fits) };
      }

  -- for the words after them there is room
  pub back_room : {one now : List ℕ} {size' a₀ t₀ a t i : ℕ} → size' ≡ size → a₀ ≡ at + f.front → t₀ ≡ to + f.front → Walked (λ T. nowhere) f.children ws buf one count scope a₀ t₀ a t i now → f.children ≤ i → (a + f.back ≤ length ws) × (t + f.back ≤ size')
  unfolding ready_kids
  back_room {one} {now} {size'} {a₀} {t₀} {a} {t} {i} q x y w e =
      let K = ready_kids q x y in
      let d = ended K w e in
      let I = inside r.some.stands in
      let b = I.behind in
      let z : a + f.back ≤ length ws = omega (arith, d, after shape, b.span, b.inside) in
      (z, omega (arith, d, K.room.fits))

front_words : {ws : List ℕ} {n : Strings} {at : ℕ} {e : Expr} {end h : ℕ} → Stands ws n at e end → h ≡ length (front e) → take h (drop at ws) ≡ front e
front_words {ws} {n} {at} {e} {end} {h} s q =
    ap (λ (l : List ℕ). take h l) (s.wrote.is ∙ ap (λ (l : List ℕ). l ++ drop end ws) (node e) ∙ append_assoc (front e) (words_all (children e) ++ back e) (drop end ws))
    ∙ ap (λ (i : ℕ). take i (front e ++ ((words_all (children e) ++ back e) ++ drop end ws))) q
    ∙ take-append_seam (front e) ((words_all (children e) ++ back e) ++ drop end ws)

back_words : {ws : List ℕ} {at : ℕ} {xs : List ℕ} {end z : ℕ} → Wrote ws at xs end → z ≡ length xs → take z (drop at ws) ≡ xs
back_words {ws} {at} {xs} {end} {z} w q = ap (λ (l : List ℕ). take z l) w.is ∙ ap (λ (i : ℕ). take i (xs ++ drop end ws)) q ∙ take-append_seam xs (drop end ws)

-- what `copied` tells: the words from a place on are written, and both places are past them
abbrev pub Copied : (ws out last : List ℕ) (at to n at' to' : ℕ) → Type 0
Copied ws out last at to n at' to' = (at' ≡ at + n) × (to' ≡ to + n) × (last ≡ sets out to (take n (drop at ws)))

-- the words around its children copied, and the children resolved: the node is
pub node_done : {ws buf out one now last : List ℕ} {count scope at to a₀ t₀ a t a' t' i : ℕ} {f : Shape} → (kind_of (get_or ws at 0) ≡ 21 → ⊥) → (kind_of (get_or ws at 0) ≡ 23 → ⊥) → ShapedAt ws at f → Copied ws out one at to f.front a₀ t₀ → Walked (λ T. nowhere) f.children ws buf one count scope a₀ t₀ a t i now → f.children ≤ i → Copied ws now last a t f.back a' t' → Resolved ws buf out last count scope at to a' t'
node_done {ws} {buf} {out} {one} {now} {last} {count} {scope} {at} {to} {a₀} {t₀} {a} {t} {a'} {t'} {i} {f} nc np g b w e c = record { gives = λ rows H n x end s. go rows H n x end s }
  where
    go : (rows : List Row) → Holds rows count buf → (n : Strings) (x : Expr) (end : ℕ) → Stands ws n at x end → Put (words (resolve_expr (tables_of rows) scope x)) out last to a' t' end
    go rows H n x end s =
        let T : Tables = tables_of rows in
        let S = g n x end s in
        let I = inside s in
        let j = I.there in
        let d = part_end (w.gives rows H n (children x) I.mid (rw (b.0, before S) j) (sym S.children_is)) (omega (arith, S.children_is)) in
        let mid : List ℕ = words_all (resolve_args T scope nowhere (children x)) in
        let bk : Wrote ws a (back x) end = rw d.past I.behind in
        let whole : words (resolve_expr T scope x) ≡ front x ++ (mid ++ back x) = node_words T scope x (λ y. nc (kind_of_lem s ∙ y)) (λ y. np (kind_of_lem s ∙ y)) in
        let p : t₀ ≡ to + length (front x) = b.1 ∙ ap (λ (h : ℕ). to + h) (before S) in
        record {
          past = omega (arith, c.0, bk.span, after S);
          upto = rw whole (simp length-append (omega (arith, c.1, d.upto, p, after S)));
          now = rw whole (c.2
              ∙ ap (λ (l : List ℕ). sets now t l) (back_words bk (after S))
              ∙ ap (λ (l : List ℕ). sets l t (back x)) d.now
              ∙ ap (λ (q : ℕ). sets (sets one t₀ mid) q (back x)) d.upto
              ∙ sym (sets_append mid (back x) one t₀)
              ∙ ap (λ (l : List ℕ). sets l t₀ (mid ++ back x)) (b.2 ∙ ap (λ (l : List ℕ). sets out to l) (front_words s (before S)))
              ∙ ap (λ (q : ℕ). sets (sets out to (front x)) q (mid ++ back x)) p
              ∙ sym (sets_append (front x) (mid ++ back x) out to));
        }
