-- The definition of reading gives every right tree that stands at a place and is not too deep. So what stands at a place is one tree only. Assumes nothing.
use Prim.Native.Nat.{ℕ, zero, suc, ◌+◌, ◌-◌, ◌<◌, ◌≤◌, max}
use mathlib.Core.Path.{◌≡◌, refl, sym, ap, ◌∙◌}
use mathlib.Core.List.{List, [], ◌∷◌, ◌++◌}
use mathlib.Core.Bool.{Bool, true}
use native.Mathlib.Omega.{arith}
use native.Mathlib.Numerals.{add-one, sub-one}
use lib.ListN.{length, length-append}
use lib.Seq.{drop-append_seam, drop-append-add}
use lib.Dec.{lit≤, lit<}
use borrow.Author.Tests.{lt-ltb, le-leb, eq-eqb}
use Rattle.tree_expr.specs.Expr.{Strings, Named, finite, Literal, Integer, Long, Single, Float, Text, Expr, Exprs, Lit, Var, Elem, Unary, Binary, Call, Field, Paren, none, more, words_l, many, words, words_all, depth, depths, Below, ValidL, Valid, Valids}
use Rattle.base_words.specs.Word.{word_of}
use Rattle.tree_expr.specs.Got.{Got, got, bind}
use Rattle.tree_expr.specs.Reader.{raw_at, test_at, leaf_at, name_at, head_at, float_at, literal_body, literal_at, exprs_at, list_at, body_at, expr_at}
use Rattle.tree_expr.specs.Stands.{Wrote, Stands}
use Rattle.tree_expr.proofs.Parts.{First, wrote_first, wrote_left, wrote_right, kind_is, pay_is, ends}
use Rattle.tree_expr.proofs.Sound.{sound}

put_raw : (ws : List ℕ) (at x end : ℕ) (xs : List ℕ) → First ws at x xs end → raw_at ws at ≡ got x (at + 1)
unfolding raw_at
put_raw ws at x end xs h = simp (lt-ltb at (length ws) h.inside, h.is)

put_test : (ws : List ℕ) (ok : ℕ → Bool) (at x end : ℕ) (xs : List ℕ) → ok x ≡ true → First ws at x xs end → test_at ws ok at ≡ got x (at + 1)
unfolding test_at
put_test ws ok at x end xs t h = simp (lt-ltb at (length ws) h.inside, h.is, t)

-- a word of kind k with a payload below n is read as its payload
pub put_leaf : (ws : List ℕ) (k n at x end : ℕ) (xs : List ℕ) → Below n x → First ws at (word_of k x) xs end → leaf_at ws k n at ≡ got x (at + 1)
unfolding leaf_at
put_leaf ws k n at x end xs b h = simp (lt-ltb at (length ws) h.inside, h.is, kind_is k x b.fits, pay_is k x b.fits, eq-eqb k k refl, lt-ltb x n b.below)

-- the number of a name is read as it is
pub put_name : (ws ns : List ℕ) (at x end : ℕ) (xs : List ℕ) → Named ns x → First ws at (word_of 2 x) xs end → name_at ws ns at ≡ got x (at + 1)
unfolding name_at
put_name ws ns at x end xs b h = simp (lt-ltb at (length ws) h.inside, h.is, kind_is 2 x b.fits, pay_is 2 x b.fits, b.named)

put_head : (ws : List ℕ) (a b at k end : ℕ) (xs : List ℕ) → a ≤ k → k ≤ b → First ws at (word_of k 0) xs end → head_at ws a b at ≡ got k (at + 1)
unfolding head_at
put_head ws a b at k end xs f u h =
    simp (lt-ltb at (length ws) h.inside, h.is, kind_is k 0 (lit< tt), pay_is k 0 (lit< tt), le-leb a k f, le-leb k b u)

-- with a level left, a head and then by its kind
expr_some : (ws : List ℕ) (n : Strings) (d at : ℕ) → 0 < d → expr_at ws n d at ≡ bind (head_at ws 16 23 at) (body_at ws n (expr_at ws n (d - 1)))
unfolding expr_at
expr_some ws n zero at z = absurd (omega arith)
expr_some ws n (suc d) at z = rw sub-one refl

module _ (ws : List ℕ) (n : Strings) where
  lit_complete : (l : Literal) (at end : ℕ) → ValidL n.count l → Wrote ws at (words_l l) end → literal_at ws n.count at ≡ got l end
  unfolding literal_at literal_body words_l ValidL bind float_at
  lit_complete (Integer a) at end v h =
      let f = wrote_first h in let g = wrote_first f.rest in
      rw (put_head ws 24 28 at 24 end _ (lit≤ tt) (lit≤ tt) f, put_raw ws _ _ _ _ g) (ap (got (Integer a)) (ends g))
  lit_complete (Long a) at end v h =
      let f = wrote_first h in let g = wrote_first f.rest in
      rw (put_head ws 24 28 at 25 end _ (lit≤ tt) (lit≤ tt) f, put_raw ws _ _ _ _ g) (ap (got (Long a)) (ends g))
  lit_complete (Single a b) at end v h =
      let f = wrote_first h in let g = wrote_first f.rest in let i = wrote_first g.rest in
      rw (put_head ws 24 28 at 26 end _ (lit≤ tt) (lit≤ tt) f, put_raw ws _ _ _ _ g, put_test ws finite _ _ _ _ v i) (ap (got (Single a b)) (ends i))
  lit_complete (Float a b) at end v h =
      let f = wrote_first h in let g = wrote_first f.rest in let i = wrote_first g.rest in
      rw (put_head ws 24 28 at 27 end _ (lit≤ tt) (lit≤ tt) f, put_raw ws _ _ _ _ g, put_test ws finite _ _ _ _ v i) (ap (got (Float a b)) (ends i))
  lit_complete (Text s) at end v h =
      let f = wrote_first h in let g = wrote_first f.rest in
      rw (put_head ws 24 28 at 28 end _ (lit≤ tt) (lit≤ tt) f, put_leaf ws 2 n.count _ _ _ _ v g) (ap (got (Text s)) (ends g))

  -- the head of an expression
  start : (k d at end : ℕ) (xs : List ℕ) → 0 < d → 16 ≤ k → k ≤ 23 → First ws at (word_of k 0) xs end → expr_at ws n d at ≡ body_at ws n (expr_at ws n (d - 1)) k (at + 1)
  unfolding bind
  start k d at end xs z a b f = expr_some ws n d at z ∙ ap (λ (p : Got ℕ). bind p (body_at ws n (expr_at ws n (d - 1)))) (put_head ws 16 23 at k end xs a b f)

  mutual
    unfolding body_at list_at exprs_at words words_all Valid Valids depth depths many bind

    -- an expression
    pub complete : (e : Expr) (d at end : ℕ) → depth e ≤ d → Valid n e → Wrote ws at (words e) end → expr_at ws n d at ≡ got e end
    complete (Lit l) d at end z v h =
        let f = wrote_first h in
        start 16 d at end _ (omega arith) (lit≤ tt) (lit≤ tt) f ∙ rw (lit_complete l (at + 1) end v f.rest) refl
    complete (Var x) d at end z v h =
        let f = wrote_first h in let g = wrote_first f.rest in
        start 17 d at end _ (omega arith) (lit≤ tt) (lit≤ tt) f ∙ rw (put_name ws n.names _ _ _ _ v g) (ap (got (Var x)) (ends g))
    complete (Elem x es) d at end z v h =
        let f = wrote_first h in let g = wrote_first f.rest in let i = wrote_first g.rest in
        start 18 d at end _ (omega arith) (lit≤ tt) (lit≤ tt) f ∙ rw (put_name ws n.names _ _ _ _ v.0 g, put_leaf ws 1 16777216 _ _ _ _ (record { below = v.1; fits = v.1 }) i, completes es (d - 1) _ end (omega arith) v.2 i.rest) refl
    complete (Unary o e) d at end z v h =
        let f = wrote_first h in let g = wrote_first f.rest in
        start 19 d at end _ (omega arith) (lit≤ tt) (lit≤ tt) f ∙ rw (put_leaf ws 9 2 _ _ _ _ v.0 g, complete e (d - 1) _ end (omega arith) v.1 g.rest) refl
    complete (Binary o l r) d at end z v h =
        let f = wrote_first h in let g = wrote_first f.rest in
        start 20 d at end _ (omega arith) (lit≤ tt) (lit≤ tt) f ∙ rw (put_leaf ws 9 18 _ _ _ _ v.0 g, complete l (d - 1) _ _ (omega arith) v.1 (wrote_left (words l) (words r) g.rest), complete r (d - 1) _ end (omega arith) v.2 (wrote_right (words l) g.rest)) refl
    complete (Call x es) d at end z v h =
        let f = wrote_first h in let g = wrote_first f.rest in let i = wrote_first g.rest in
        start 21 d at end _ (omega arith) (lit≤ tt) (lit≤ tt) f ∙ rw (put_name ws n.names _ _ _ _ v.0 g, put_leaf ws 1 16777216 _ _ _ _ (record { below = v.1; fits = v.1 }) i, completes es (d - 1) _ end (omega arith) v.2 i.rest) refl
    complete (Field e x) d at end z v h =
        let f = wrote_first h in let g = wrote_first (wrote_right (words e) f.rest) in
        start 22 d at end _ (omega arith) (lit≤ tt) (lit≤ tt) f ∙ rw (complete e (d - 1) _ _ (omega arith) v.0 (wrote_left (words e) (word_of 2 x ∷ []) f.rest), put_name ws n.names _ _ _ _ v.1 g) (ap (got (Field e x)) (ends g))
    complete (Paren e) d at end z v h =
        let f = wrote_first h in
        start 23 d at end _ (omega arith) (lit≤ tt) (lit≤ tt) f ∙ rw (complete e (d - 1) _ end (omega arith) v f.rest) refl

    -- so many expressions, one after another
    pub completes : (es : Exprs) (d at end : ℕ) → depths es ≤ d → Valids n es → Wrote ws at (words_all es) end → exprs_at ws n (expr_at ws n d) (many es) at ≡ got es end
    completes none d at end z v h = ap (got none) (omega (arith, h.span))
    completes (more e es) d at end z v h =
        rw (add-one (many es), complete e d at _ (omega arith) v.0 (wrote_left (words e) (words_all es) h), completes es d _ end (omega arith) v.1 (wrote_right (words e) h)) refl

-- a place has one tree only, and it ends at one place
pub one_tree : {ws : List ℕ} {n : Strings} {at : ℕ} {e e' : Expr} {end end' : ℕ} → Stands ws n at e end → Stands ws n at e' end' → (e ≡ e') × (end ≡ end')
one_tree {ws} {n} {at} {e} {e'} {end} {end'} s t =
    let d : ℕ = max (depth e) (depth e') in
    let a = complete ws n e d at end (omega arith) s.valid s.wrote in
    let b = complete ws n e' d at end' (omega arith) t.valid t.wrote in
    (cc, cc)

-- what is read stands there
pub stands : {ws : List ℕ} {n : Strings} (d : ℕ) {at : ℕ} {e : Expr} {end : ℕ} → expr_at ws n d at ≡ got e end → Stands ws n at e end
stands d h = let r = sound _ _ d _ _ _ h in record { wrote = r.wrote; valid = r.valid }

-- what stands there is read, at its own depth
pub reads : {ws : List ℕ} {n : Strings} {at : ℕ} {e : Expr} {end : ℕ} → Stands ws n at e end → expr_at ws n (depth e) at ≡ got e end
reads {ws} {n} {at} {e} {end} s = complete ws n e (depth e) at end (omega arith) s.valid s.wrote

-- more levels change nothing
pub more_levels : (ws : List ℕ) (n : Strings) (d d' at : ℕ) {e : Expr} {end : ℕ} → d ≤ d' → expr_at ws n d at ≡ got e end → expr_at ws n d' at ≡ got e end
more_levels ws n d d' at {e} {end} z h = let r = sound ws n d at e end h in complete ws n e d' at end (omega (arith, r.deep)) r.valid r.wrote

-- the words of a right tree, with any words before and after them, are read as that tree
pub decode_encode : (n : Strings) (before after : List ℕ) (e : Expr) (d : ℕ) → depth e ≤ d → Valid n e → expr_at (before ++ (words e ++ after)) n d (length before) ≡ got e (length before + length (words e))
decode_encode n before after e d z v = complete (before ++ (words e ++ after)) n e d (length before) (length before + length (words e)) z v
    (record { span = refl; inside = simp length-append (omega arith); is = drop-append_seam before (words e ++ after) ∙ ap (λ (l : List ℕ). words e ++ l) (sym (drop-append-add before (words e ++ after) (length (words e)) ∙ drop-append_seam (words e) after)) })
