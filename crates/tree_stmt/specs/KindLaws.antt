-- What is so of all listed kinds is so of every kind: a rule for all 54 of them is one computed test. And a claim of some kinds and of all others. Assumes nothing.
use Rattle.std.specs.Prelude.{◌<◌, ◌≡◌, refl, Bool, true, false, not, ◌&&◌, List, [], ◌∷◌, ltb, eqb}
use Rattle.std.proofs.Common.{sym, ap, subst, ◌∙◌, ltb-true, eqb-true}
use Rattle.base_words.specs.Word.{pick}
use Rattle.base_words.specs.Each.{Each, each_or, tuple, each_same}
use Rattle.tree_stmt.specs.Sorts.{Kind, kinds, kind_at, number_of, label, label_name, let', print, input, line_input, if, for, while, do_loop, goto, gosub, return, on_goto, on_gosub, dim, declare, shared, static, redim, sub, function, call, mid_assign, swap, const, exit_loop, exit_proc, option_base, type_def, field_assign, data', read, def_type, beep, erase, raise_error, on_error, resume, locate, color, randomize, restore, cls, select_case, end', stop, open', close, width, field', set_field, get_put, lock}

-- every kind is listed, at its number
pub kind_number : (k : Kind) → kind_at (number_of k) ≡ k
unfolding number_of kind_at kinds
kind_number label = refl
kind_number label_name = refl
kind_number let' = refl
kind_number print = refl
kind_number input = refl
kind_number line_input = refl
kind_number if = refl
kind_number for = refl
kind_number while = refl
kind_number do_loop = refl
kind_number goto = refl
kind_number gosub = refl
kind_number return = refl
kind_number on_goto = refl
kind_number on_gosub = refl
kind_number dim = refl
kind_number declare = refl
kind_number shared = refl
kind_number static = refl
kind_number redim = refl
kind_number sub = refl
kind_number function = refl
kind_number call = refl
kind_number mid_assign = refl
kind_number swap = refl
kind_number const = refl
kind_number exit_loop = refl
kind_number exit_proc = refl
kind_number option_base = refl
kind_number type_def = refl
kind_number field_assign = refl
kind_number data' = refl
kind_number read = refl
kind_number def_type = refl
kind_number beep = refl
kind_number erase = refl
kind_number raise_error = refl
kind_number on_error = refl
kind_number resume = refl
kind_number locate = refl
kind_number color = refl
kind_number randomize = refl
kind_number restore = refl
kind_number cls = refl
kind_number select_case = refl
kind_number end' = refl
kind_number stop = refl
kind_number open' = refl
kind_number close = refl
kind_number width = refl
kind_number field' = refl
kind_number set_field = refl
kind_number get_put = refl
kind_number lock = refl

-- the default of `kind_at` is listed too, as the last
pub every_kind : (P : Kind → Type 0) → Each P kinds → (k : Kind) → P k
unfolding Each kind_at kinds
every_kind P a k = subst P (kind_number k) (each_or P lock kinds (each_or P label kinds a.0 a 53) a (number_of k))

-- two functions that are alike at all listed kinds, which computing shows, are alike at every kind
pub same_kinds : (T : Kind → Type 0) (f g : (k : Kind) → T k) → tuple f kinds ≡ tuple g kinds → (k : Kind) → f k ≡ g k
same_kinds T f g e = every_kind (λ k. f k ≡ g k) (each_same f g kinds e)

-- a kind's number is below 54
pub number_small : (k : Kind) → number_of k < 54
unfolding tuple kinds number_of
number_small k = ltb-true (number_of k) 54 (same_kinds (λ k. Bool) (λ k. ltb (number_of k) 54) (λ k. true) refl k)

-- ---- some kinds, and all others

-- the kind is none of the list
unfoldable pub none_of : List Kind → Kind → Bool
none_of [] k = true
none_of (j ∷ js) k = not (eqb (number_of k) (number_of j)) && none_of js k

-- a claim that is so of the kinds of the list is so of a kind if it is where the kind is none of them
pub by_kind : (C : Kind → Type 0) (js : List Kind) → Each C js → (k : Kind) → (none_of js k ≡ true → C k) → C k
unfolding Each none_of
by_kind C [] a k f = f refl
by_kind C (j ∷ js) a k f = go (eqb (number_of k) (number_of j)) refl (by_kind C js a.1 k)
  where
    go : (b : Bool) → eqb (number_of k) (number_of j) ≡ b → ((none_of js k ≡ true → C k) → C k) → C k
    go true e next = subst C (sym (kind_number j) ∙ ap kind_at (sym (eqb-true (number_of k) (number_of j) e)) ∙ kind_number k) a.0
    go false e next = next (λ o. f (rw e o))

-- two functions that are alike at all kinds that are none of the list, which computing shows
pub same_others : (T : Kind → Type 0) (js : List Kind) (f g : (k : Kind) → T k) → tuple f kinds ≡ tuple (λ k. pick (none_of js k) (g k) (f k)) kinds → (k : Kind) → none_of js k ≡ true → f k ≡ g k
same_others T js f g e k o = rw o at (same_kinds T f (λ k. pick (none_of js k) (g k) (f k)) e k)
