-- What resolving writes: the words of a node from those of its parts, and never more than were read. Assumes nothing.
use Prim.Native.Nat.{ℕ, ◌+◌}
use native.Mathlib.Nat.{add-zero}
use mathlib.Core.Path.{◌≡◌, refl, sym, ap, ap₂}
use mathlib.Core.Bool.{Bool, true, false}
use mathlib.Core.List.{List, ◌∷◌, ◌++◌, append-nil}
use lib.ListN.{length}
use Rattle.base_words.specs.Word.{word_of, pick}
use Rattle.tree_expr.specs.Expr.{Strings, Expr, Lit, Var, Elem, Unary, Binary, Call, Field, Paren, Exprs, none, more, many, words, words_all, words_l, Valid, kind_e}
use Rattle.tree_expr.specs.Stands.{Stands}
use Rattle.tree_expr.proofs.Parts.{wrote_first}
use Rattle.tree_skip.specs.Shape.{children}
use Rattle.resolve_definition.specs.Tables.{Tables, Places, nowhere, places, after, element}
use Rattle.resolve_definition.specs.Resolve.{passed, called, resolve_expr, resolve_args}
use Rattle.resolve_definition.specs.Flags.{passed_false}
use Rattle.resolve_exprs.specs.Node.{front, back, pair_of, bare}

-- ---- a whole argument

-- the pair that it keeps, and then what is resolved
pub passed_words : (T : Tables) (σ : ℕ) (k : Bool) (e : Expr) → words (passed k e (resolve_expr T σ e)) ≡ pair_of k e ++ words (resolve_expr T σ (bare k e))
unfolding passed pair_of bare resolve_expr words
passed_words T σ k (Lit l) = refl
passed_words T σ k (Var x) = refl
passed_words T σ k (Elem x es) = refl
passed_words T σ k (Unary o e) = refl
passed_words T σ k (Binary o e d) = refl
passed_words T σ k (Call x es) = refl
passed_words T σ k (Field e x) = refl
passed_words T σ true (Paren e) = refl
passed_words T σ false (Paren e) = refl

-- it stands after that pair
pub stands_bare : {ws : List ℕ} {n : Strings} {at : ℕ} {e : Expr} {end : ℕ} (k : Bool) → Stands ws n at e end → Stands ws n (at + length (pair_of k e)) (bare k e) end
unfolding pair_of bare words Valid
stands_bare {ws} {n} {at} {e = Lit l} {end} k s = rw (add-zero at) s
stands_bare {ws} {n} {at} {e = Var x} {end} k s = rw (add-zero at) s
stands_bare {ws} {n} {at} {e = Elem x es} {end} k s = rw (add-zero at) s
stands_bare {ws} {n} {at} {e = Unary o e} {end} k s = rw (add-zero at) s
stands_bare {ws} {n} {at} {e = Binary o e d} {end} k s = rw (add-zero at) s
stands_bare {ws} {n} {at} {e = Call x es} {end} k s = rw (add-zero at) s
stands_bare {ws} {n} {at} {e = Field e x} {end} k s = rw (add-zero at) s
stands_bare {ws} {n} {at} {e = Paren e} {end} true s = record { wrote = (wrote_first s.wrote).rest; valid = s.valid }
stands_bare {ws} {n} {at} {e = Paren e} {end} false s = rw (add-zero at) s

-- ---- a node

-- a call's words, turned or not
pub called_words : (b : Bool) (f : ℕ) (es : Exprs) → words (called b f es) ≡ word_of (pick b 18 21) 0 ∷ word_of 2 f ∷ word_of 1 (many es) ∷ words_all es
unfolding called words
called_words true f es = refl
called_words false f es = refl

-- a list keeps its count
pub many_args : (T : Tables) (σ : ℕ) (m : Places) (es : Exprs) → many (resolve_args T σ m es) ≡ many es
unfolding many resolve_args
many_args T σ m none = refl
many_args T σ m (more e es) = ap (λ (n : ℕ). n + 1) (many_args T σ (after m) es)

-- resolve_expr of a call
pub call_words : (T : Tables) (σ f : ℕ) (es : Exprs) → words (resolve_expr T σ (Call f es)) ≡ word_of (pick (element T σ f) 18 21) 0 ∷ word_of 2 f ∷ word_of 1 (many es) ∷ words_all (resolve_args T σ (places T f) es)
unfolding resolve_expr
call_words T σ f es = rw (called_words (element T σ f) f (resolve_args T σ (places T f) es), many_args T σ (places T f) es)

-- parentheses go
pub pair_words : (T : Tables) (σ : ℕ) (e : Expr) → words (resolve_expr T σ (Paren e)) ≡ words (resolve_expr T σ e)
unfolding resolve_expr
pair_words T σ e = refl

-- neither a call nor a pair: the children resolved, the words around them as they are
pub node_words : (T : Tables) (σ : ℕ) (e : Expr) → (kind_e e ≡ 21 → ⊥) → (kind_e e ≡ 23 → ⊥) → words (resolve_expr T σ e) ≡ front e ++ (words_all (resolve_args T σ nowhere (children e)) ++ back e)
unfolding resolve_expr resolve_args words words_all front children back nowhere after kind_e
node_words T σ (Lit l) c p = sym (append-nil (word_of 16 0 ∷ words_l l))
node_words T σ (Var x) c p = refl
node_words T σ (Elem x es) c p = ap₂ (λ (n : ℕ) (l : List ℕ). word_of 18 0 ∷ word_of 2 x ∷ word_of 1 n ∷ l) (many_args T σ nowhere es) (sym (append-nil (words_all (resolve_args T σ nowhere es))))
node_words T σ (Unary o e) c p = rw (passed_false e (resolve_expr T σ e)) (ap (λ (l : List ℕ). word_of 19 0 ∷ word_of 9 o ∷ l) (simp append-nil))
node_words T σ (Binary o e d) c p = rw (passed_false e (resolve_expr T σ e), passed_false d (resolve_expr T σ d)) (ap (λ (l : List ℕ). word_of 20 0 ∷ word_of 9 o ∷ l) (simp append-nil))
node_words T σ (Call x es) c p = absurd (c refl)
node_words T σ (Field e x) c p = rw (passed_false e (resolve_expr T σ e)) (ap (λ (l : List ℕ). word_of 22 0 ∷ l) (simp append-nil))
node_words T σ (Paren e) c p = absurd (p refl)
