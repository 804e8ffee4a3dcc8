-- What the words of a parameter and of a procedure say. Assumes nothing.
use Prim.Native.Nat.{ℕ, ◌+◌, ◌-◌, ◌<◌, ◌≤◌}
use native.Mathlib.Omega.{arith}
use mathlib.Core.Path.{◌≡◌, refl, sym, ap, ap₂, subst, ◌∙◌}
use mathlib.Core.Bool.{Bool, true, false}
use mathlib.Core.List.{List, ◌++◌, append-nil}
use mathlib.Core.Option.{Option, none as absent}
use lib.Dec.{eqb}
use lib.ListN.{length, get_or}
use Rattle.base_words.specs.Word.{word_of, pay_of}
use Rattle.tree_expr.specs.Expr.{Expr}
use Rattle.tree_expr.specs.Stands.{Wrote}
use Rattle.tree_expr.proofs.Parts.{First, wrote_at, wrote_first, wrote_left, wrote_right, pay_is}
use Rattle.tree_stmt.specs.Sorts.{name, Sorts, TypeRef as TypeSort, opt, nil, ◌&◌, flag, Param as ParamRow, body as body_sort, Kind, sorts, sub, function}
use Rattle.tree_stmt.specs.Tree.{one, row, rows, Tree, word, Stmt, list, done, cons, count, words_t, Right, over}
use Rattle.tree_stmt.specs.Stands.{Stands, SomeTree}
use Rattle.tree_stmt.proofs.Complete.{one_tree, clear}
use Rattle.tree_stmt.proofs.Nodes.{cons_left, cons_right, stmt_line}
use Rattle.tree_views.specs.View.{TypeRef, Param, optional, as_type, is_set, param, items, rows_of, view}
use Rattle.rows_lent.specs.RuleLaws.{name_below as marked_below}
use Rattle.collect_as_clause.specs.Parts.{AsTypeIs, written_if, arg_word}
use Rattle.collect_as_clause.specs.Over.{set_over, as_over, param_rows_over}
use Rattle.std.specs.Prelude.{Option as RustOption, None}
use Rattle.rows_lookup.specs.declared.Typed.{Typed}
use Rattle.collect_definition.specs.Seen.{see}
use Rattle.collect_definition.specs.Collect.{Given, statement, procedure}
use Rattle.collect_definition.specs.Code.{StmtAt}
use Rattle.collect_procedure.specs.Post.{StmtTo, ParamOf, ParamIs, ParamsAt, SomeParams, SomeBody, SomeProc, Shown, ProcIs}
use Rattle.collect_procedure.specs.declared.read.ProcAt.{ProcAt}

-- ---- words at a place

first_at : {ws xs : List ℕ} {m m' w end : ℕ} → m ≡ m' → First ws m w xs end → First ws m' w xs end
first_at {ws} {xs} {w = w} {end} e f = subst (λ (x : ℕ). First ws x w xs end) e f

-- a flag's word
flag_is : (w x : ℕ) → w ≡ word_of 3 x → x < 16777216 → eqb (pay_of w) 1 ≡ eqb x 1
flag_is w x e h = ap (λ (y : ℕ). eqb y 1) (ap pay_of e ∙ pay_is 3 x h)

-- ---- a parameter: three words, and its AS clause

-- its parts, where the words have them
pub record InParam (ws ns : List ℕ) (n at end : ℕ) (p : Param) : Type 0 where
  pub inside : at + 2 < length ws
  pub name : pay_of (get_or ws at 0) ≡ p.name
  pub byval : eqb (pay_of (get_or ws (at + 1) 0)) 1 ≡ p.byval
  pub array : eqb (pay_of (get_or ws (at + 2) 0)) 1 ≡ p.array
  pub clause : Tree Expr (one (opt (TypeSort & nil)))
  pub there : Stands ws ns n (at + 3) clause end
  pub type_is : optional as_type clause ≡ p.ty

-- what stands there, word by word
pub in_param : {ws ns : List ℕ} {n at end : ℕ} (v : Tree Expr (row ParamRow)) → Stands ws ns n at v end → InParam ws ns n at end (param v)
unfolding param is_set words_t Right
in_param {ws} {ns} {n} {at} {end} (cons (word x) (cons (word y) (cons (word z) (cons t done)))) s =
    let f = wrote_first s.wrote in
    let g = wrote_first f.rest in
    let h = wrote_first g.rest in
    let k = first_at {m' = at + 2} (omega arith) h in
    record {
      inside = k.inside;
      name = ap pay_of f.is ∙ pay_is 2 x s.valid.0.1;
      byval = flag_is _ y g.is s.valid.1.0.1;
      array = flag_is _ z k.is s.valid.1.1.0.1;
      clause = t;
      there = record { wrote = wrote_at (omega arith) (rw (append-nil (words_t t)) at h.rest); valid = s.valid.1.1.1.0 };
      type_is = refl;
    }

module _ {ws : List ℕ} {at : ℕ} where
  -- its three words are within the words
  pub param_inside : SomeTree (row ParamRow) ws at → at + 2 < length ws
  param_inside S = (in_param S.tree S.stands).inside

  -- its AS clause stands after them
  pub param_clause : SomeTree (row ParamRow) ws at → SomeTree (one (opt (TypeSort & nil))) ws (at + 3)
  param_clause S =
      let p = in_param S.tree S.stands in
      record { names = S.names; strings = S.strings; tree = p.clause; end = S.end; stands = p.there }

  -- so the parameter is read from these words
  pub param_is : {byval array : Bool} {ty : RustOption Typed} {next : ℕ} → byval ≡ eqb (pay_of (get_or ws (at + 1) 0)) 1 → array ≡ eqb (pay_of (get_or ws (at + 2) 0)) 1 → AsTypeIs ws (at + 3) ty next
      → {k : (pay_of (get_or ws at 0) < 16777216) × (arg_word ty < 16777216)} → ParamIs ws at (record { name = pay_of (get_or ws at 0); byval = byval; array = array; ty = ty; next = next; small = k })
  param_is {byval} {array} {ty} {next} e d T {k} = record { is = by; name_small = k.0; arg_small = k.1 }
    where
      by : (ns : List ℕ) (n : ℕ) (v : Tree Expr (row ParamRow)) (end : ℕ) → Stands ws ns n at v end
          → ParamOf (record { name = pay_of (get_or ws at 0); byval = byval; array = array; ty = ty; next = next; small = k }) (param v) × (next ≡ end)
      by ns n v end s =
          let p = in_param v s in
          let q = T.is ns n p.clause end p.there in
          (record { name = p.name; byval = e ∙ p.byval; array = d ∙ p.array; ty = q.0 ∙ ap written_if p.type_is }, q.1)

-- ---- a body: a list, so that it has a word

body_word : {ws ns : List ℕ} {n at end : ℕ} (v : Tree Expr (one body_sort)) → Stands ws ns n at v end → (at < end) × (end ≤ length ws)
unfolding words_t
body_word (list rs) s = (omega (arith, s.wrote.span), s.wrote.inside)

module _ {ws : List ℕ} {at end : ℕ} (S : SomeBody ws at end) where
  -- a body ends after its place, within the words
  pub body_inside : (at < end) × (end ≤ length ws)
  body_inside = body_word S.there.tree S.there.stands

-- ---- what stands in a SUB or FUNCTION: its line, its name and its parameters; a flag

record InHead (ws ns : List ℕ) (n at end line x : ℕ) (ps : Tree Expr (rows ParamRow)) {ss : Sorts} (rest : Tree Expr (row ss)) : Type 0 where
  inside : at + 2 < length ws
  line_is : pay_of (get_or ws at 0) ≡ line
  name_is : pay_of (get_or ws (at + 1) 0) ≡ x
  named : eqb (get_or ns x 0) 1 ≡ true
  counted : count ps ≡ pay_of (get_or ws (at + 2) 0)
  mid : ℕ
  there : Stands ws ns n (at + 3) ps mid
  next : Stands ws ns n mid rest end

in_head : {ws ns : List ℕ} {n at end line : ℕ} {ss : Sorts} (x : ℕ) (ps : Tree Expr (rows ParamRow)) (rest : Tree Expr (row ss))
    → pay_of (get_or ws at 0) ≡ line → Stands ws ns n (at + 1) (cons (word {l = name} x) (cons (list ps) rest)) end → InHead ws ns n at end line x ps rest
unfolding words_t Right
in_head {ws} {ns} {n} {at} {end} x ps rest l s =
    let f = wrote_first s.wrote in
    let g = first_at {m' = at + 2} (omega arith) (wrote_first f.rest) in
    let w : Wrote ws (at + 3) (words_t ps ++ words_t rest) end = wrote_at (omega arith) g.rest in
    record {
      inside = g.inside;
      line_is = l;
      name_is = ap pay_of f.is ∙ pay_is 2 x s.valid.0.1;
      named = s.valid.0.0;
      counted = sym (ap pay_of g.is ∙ pay_is 1 (count ps) s.valid.1.0.0);
      mid = at + 3 + length (words_t ps);
      there = record { wrote = wrote_left (words_t ps) (words_t rest) w; valid = s.valid.1.0.1 };
      next = record { wrote = wrote_right (words_t ps) w; valid = s.valid.1.1 };
    }

-- its parameters, and its name, as the code has them
module _ {ws ns : List ℕ} {n at end line x : ℕ} {ps : Tree Expr (rows ParamRow)} {ss : Sorts} {rest : Tree Expr (row ss)} (h : InHead ws ns n at end line x ps rest) where
  abbrev params_at : ParamsAt ws (at + 3) (pay_of (get_or ws (at + 2) 0)) (rows_of param ps)
  params_at = record { names = ns; strings = n; tree = ps; end = h.mid; stands = h.there; counted = h.counted; are = refl }

  some_params : SomeParams ws (at + 3) (pay_of (get_or ws (at + 2) 0))
  some_params = record { params = rows_of param ps; there = params_at }

  name_marked : eqb (get_or ns (pay_of (get_or ws (at + 1) 0)) 0) 1 ≡ true
  name_marked = subst (λ (y : ℕ). eqb (get_or ns y 0) 1 ≡ true) (sym h.name_is) h.named

in_flag : {ws ns : List ℕ} {n at end : ℕ} {ss : Sorts} (v : Tree Expr (one flag)) (r : Tree Expr (row ss)) → Stands ws ns n at (cons v r) end
    → (at < length ws) × (eqb (pay_of (get_or ws at 0)) 1 ≡ is_set v) × Stands ws ns n (at + 1) r end
unfolding words_t Right is_set
in_flag (word x) r s =
    let f = wrote_first s.wrote in
    (f.inside, flag_is _ x f.is s.valid.0.1, record { wrote = f.rest; valid = s.valid.1 })

-- nothing is left
in_done : {ws ns : List ℕ} {n at end : ℕ} → Stands ws ns n at done end → at ≡ end
unfolding words_t
in_done s = omega (arith, s.wrote.span)

-- a place has one statement, so that any that stands there ends where that one does
same_end : {ns : List ℕ} {n : ℕ} {k : Kind} {ws : List ℕ} {at e line end : ℕ} {fields : Tree Expr (row (sorts k))} → StmtTo ns n k ws at e → Stands ws ns n at (Stmt k line fields) end → end ≡ e
unfolding clear
same_end {ns} {n} {k} {ws} {at} {line = line} {end} {fields} S s =
    let T = S.stmt in
    (one_tree ws ns n (Stmt k line fields) (Stmt k T.line T.fields) at end T.end refl s.valid T.stands.valid s.wrote T.stands.wrote).1 ∙ S.ends

-- the number of a name is below 1,024, since there are no more marks
name_below : (ns : List ℕ) → length ns ≤ 1024 → (x : ℕ) → eqb (get_or ns x 0) 1 ≡ true → x < 1024
name_below ns h x e = omega (arith, marked_below ns x e)

-- ---- a SUB

record InSub (ws ns : List ℕ) (n at end line : ℕ) (r : Tree Expr (row (sorts sub))) : Type 0 where
  name : ℕ
  params : Tree Expr (rows ParamRow)
  body : Tree Expr (one body_sort)
  keeps : Tree Expr (one flag)
  head : InHead ws ns n at end line name params (cons body (cons keeps done))
  past : ℕ
  body_there : Stands ws ns n head.mid body past
  last : past + 1 ≡ end
  flag_inside : past < length ws
  flag_set : eqb (pay_of (get_or ws past 0)) 1 ≡ is_set keeps
  is : (G : Given) (scope : ℕ) → statement G scope line (view sub (over see r))
      ≡ procedure G scope line (record { name = name; params = rows_of param params; ret_ty = absent; body = over see body; is_function = false; is_static = is_set keeps; def_fn = false })

in_sub : {ws ns : List ℕ} {n at end : ℕ} (line : ℕ) (r : Tree Expr (row (sorts sub))) → Stands ws ns n at (Stmt sub line r) end → InSub ws ns n at end line r
unfolding sorts view over statement items
in_sub line (cons (word x) (cons (list ps) (cons b (cons f done)))) s =
    let l = stmt_line s in
    let h = in_head x ps (cons b (cons f done)) l.1 l.2 in
    let g = in_flag f done (cons_right h.next) in
    record {
      name = x;
      params = ps;
      body = b;
      keeps = f;
      head = h;
      past = _;
      body_there = cons_left h.next;
      last = in_done g.2;
      flag_inside = g.0;
      flag_set = g.1;
      is = λ G scope.
          ap₂ (λ (qs : List Param) (t : Bool). procedure G scope line (record { name = x; params = qs; ret_ty = absent; body = over see b; is_function = false; is_static = t; def_fn = false }))
          (param_rows_over see ps) (set_over see f);
    }

-- the same body, its places told otherwise
ends_at : {ws ns : List ℕ} {n at at' end end' : ℕ} {v : Tree Expr (one body_sort)} → at ≡ at' → end ≡ end' → Stands ws ns n at v end → Stands ws ns n at' v end'
ends_at {ws} {ns} {n} {at} {at'} {end} {end'} {v} e f s = subst (λ (x : ℕ). Stands ws ns n at' v x) f (subst (λ (x : ℕ). Stands ws ns n x v end) e s)

module _ {ws ns : List ℕ} {n at end : ℕ} (S : StmtTo ns n sub ws at end) where
  here : InSub ws ns n at S.stmt.end S.stmt.line S.stmt.fields
  here = in_sub S.stmt.line S.stmt.fields S.stmt.stands

  -- its line, its name and its count are within the words
  pub sub_inside : at + 2 < length ws
  sub_inside = here.head.inside

  -- its name is a string's number
  pub sub_few : length ns ≤ 1024 → pay_of (get_or ws (at + 1) 0) < 1024
  sub_few h = name_below ns h _ (name_marked here.head)

  -- as many parameters stand after them
  pub sub_params : SomeParams ws (at + 3) (pay_of (get_or ws (at + 2) 0))
  sub_params = some_params here.head

  -- the flag is the last word
  pub last_flag : (1 ≤ end) × (end - 1 < length ws)
  last_flag = (omega (arith, here.last, S.ends), omega (arith, here.last, here.flag_inside, S.ends))

  -- so the SUB is read: its body after the parameters, its flag last
  pub sub_is : {m : ℕ} → ((ps : List Param) (T : ParamsAt ws (at + 3) (pay_of (get_or ws (at + 2) 0)) ps) → m ≡ T.end) → (keeps : Bool) → keeps ≡ eqb (pay_of (get_or ws (end - 1) 0)) 1 → {k : pay_of (get_or ws (at + 1) 0) < 1024}
      → ProcIs ns n sub ws at (record { line = pay_of (get_or ws at 0); name = pay_of (get_or ws (at + 1) 0); params = at + 3; count = pay_of (get_or ws (at + 2) 0); ty = None; body = m; past = end - 1; function = false; keeps = keeps; deffn = false; few = k })
  sub_is {m} past_params keeps q {k} = record { shows = by; named = name_marked here.head }
    where
      by : (line : ℕ) (r : Tree Expr (row (sorts sub))) (end' : ℕ) → Stands ws ns n at (Stmt sub line r) end'
          → Shown ws sub (record { line = pay_of (get_or ws at 0); name = pay_of (get_or ws (at + 1) 0); params = at + 3; count = pay_of (get_or ws (at + 2) 0); ty = None; body = m; past = end - 1; function = false; keeps = keeps; deffn = false; few = k }) line r
      by line r end' s =
          let h = in_sub line r s in
          let p = past_params _ (params_at h.head) in
          let e : end - 1 ≡ h.past = omega (arith, h.last, same_end S s) in
          record {
            proc = record { name = h.name; params = rows_of param h.params; ret_ty = absent; body = over see h.body; is_function = false; is_static = is_set h.keeps; def_fn = false };
            is = h.is;
            of = record {
              name = h.head.name_is;
              params = params_at h.head;
              ty = refl;
              body = record { names = ns; strings = n; tree = h.body; stands = ends_at (sym p) (sym e) h.body_there; is = refl };
              function = refl;
              static = q ∙ ap (λ (x : ℕ). eqb (pay_of (get_or ws x 0)) 1) e ∙ h.flag_set;
              def_fn = refl;
            };
            line_is = h.head.line_is;
          }

-- ---- a FUNCTION: its AS clause stands before the body, and it has two flags

record InFunction (ws ns : List ℕ) (n at end line : ℕ) (r : Tree Expr (row (sorts function))) : Type 0 where
  name : ℕ
  params : Tree Expr (rows ParamRow)
  clause : Tree Expr (one (opt (TypeSort & nil)))
  body : Tree Expr (one body_sort)
  keeps : Tree Expr (one flag)
  deffn : Tree Expr (one flag)
  head : InHead ws ns n at end line name params (cons clause (cons body (cons keeps (cons deffn done))))
  next : ℕ
  clause_there : Stands ws ns n head.mid clause next
  past : ℕ
  body_there : Stands ws ns n next body past
  last : past + 2 ≡ end
  flag_inside : past + 1 < length ws
  keeps_set : eqb (pay_of (get_or ws past 0)) 1 ≡ is_set keeps
  deffn_set : eqb (pay_of (get_or ws (past + 1) 0)) 1 ≡ is_set deffn
  is : (G : Given) (scope : ℕ) → statement G scope line (view function (over see r))
      ≡ procedure G scope line (record { name = name; params = rows_of param params; ret_ty = optional as_type clause; body = over see body; is_function = true; is_static = is_set keeps; def_fn = is_set deffn })

in_function : {ws ns : List ℕ} {n at end : ℕ} (line : ℕ) (r : Tree Expr (row (sorts function))) → Stands ws ns n at (Stmt function line r) end → InFunction ws ns n at end line r
unfolding sorts view over statement items
in_function line (cons (word x) (cons (list ps) (cons t (cons b (cons f (cons g done)))))) s =
    let l = stmt_line s in
    let h = in_head x ps (cons t (cons b (cons f (cons g done)))) l.1 l.2 in
    let a = cons_right h.next in
    let k = in_flag f (cons g done) (cons_right a) in
    let d = in_flag g done k.2 in
    record {
      name = x;
      params = ps;
      clause = t;
      body = b;
      keeps = f;
      deffn = g;
      head = h;
      next = _;
      clause_there = cons_left h.next;
      past = _;
      body_there = cons_left a;
      last = omega (arith, in_done d.2);
      flag_inside = d.0;
      keeps_set = k.1;
      deffn_set = d.1;
      is = λ G scope.
          ap₂ (λ (qs : List Param) (ty : Option TypeRef). procedure G scope line (record { name = x; params = qs; ret_ty = ty; body = over see b; is_function = true; is_static = is_set (over see f); def_fn = is_set (over see g) }))
          (param_rows_over see ps) (as_over see t)
          ∙ ap₂ (λ (k d : Bool). procedure G scope line (record { name = x; params = rows_of param ps; ret_ty = optional as_type t; body = over see b; is_function = true; is_static = k; def_fn = d }))
          (set_over see f) (set_over see g);
    }

module _ {ws ns : List ℕ} {n at end : ℕ} (S : StmtTo ns n function ws at end) where
  found : InFunction ws ns n at S.stmt.end S.stmt.line S.stmt.fields
  found = in_function S.stmt.line S.stmt.fields S.stmt.stands

  -- its line, its name and its count are within the words
  pub function_inside : at + 2 < length ws
  function_inside = found.head.inside

  -- its name is a string's number
  pub function_few : length ns ≤ 1024 → pay_of (get_or ws (at + 1) 0) < 1024
  function_few h = name_below ns h _ (name_marked found.head)

  -- as many parameters stand after them
  pub function_params : SomeParams ws (at + 3) (pay_of (get_or ws (at + 2) 0))
  function_params = some_params found.head

  -- the flags are the last two words
  pub last_flags : (2 ≤ end) × (end - 1 < length ws)
  last_flags = (omega (arith, found.last, S.ends), omega (arith, found.last, found.flag_inside, S.ends))

  module _ {m : ℕ} (past_params : (ps : List Param) (T : ParamsAt ws (at + 3) (pay_of (get_or ws (at + 2) 0)) ps) → m ≡ T.end) where
    -- the clause stands past the parameters, of whatever FUNCTION stands there
    clause_at : {end line : ℕ} {r : Tree Expr (row (sorts function))} (h : InFunction ws ns n at end line r) → Stands ws ns n m h.clause h.next
    clause_at h = subst (λ (x : ℕ). Stands ws ns n x h.clause h.next) (sym (past_params _ (params_at h.head))) h.clause_there

    -- its AS clause stands after the parameters
    pub function_clause : SomeTree (one (opt (TypeSort & nil))) ws m
    function_clause = record { names = ns; strings = n; tree = found.clause; end = found.next; stands = clause_at found }

    -- so the FUNCTION is read: its body after the clause, its two flags last
    pub function_is : {ty : RustOption Typed} {body : ℕ} → AsTypeIs ws m ty body → (keeps deffn : Bool) → keeps ≡ eqb (pay_of (get_or ws (end - 2) 0)) 1 → deffn ≡ eqb (pay_of (get_or ws (end - 1) 0)) 1 → {k : pay_of (get_or ws (at + 1) 0) < 1024}
        → ProcIs ns n function ws at (record { line = pay_of (get_or ws at 0); name = pay_of (get_or ws (at + 1) 0); params = at + 3; count = pay_of (get_or ws (at + 2) 0); ty = ty; body = body; past = end - 2; function = true; keeps = keeps; deffn = deffn; few = k })
    function_is {ty} {body} T keeps deffn q d {k} = record { shows = by; named = name_marked found.head }
      where
        by : (line : ℕ) (r : Tree Expr (row (sorts function))) (end' : ℕ) → Stands ws ns n at (Stmt function line r) end'
            → Shown ws function (record { line = pay_of (get_or ws at 0); name = pay_of (get_or ws (at + 1) 0); params = at + 3; count = pay_of (get_or ws (at + 2) 0); ty = ty; body = body; past = end - 2; function = true; keeps = keeps; deffn = deffn; few = k }) line r
        by line r end' s =
            let h = in_function line r s in
            let c = T.is ns n h.clause h.next (clause_at h) in
            let e : end - 2 ≡ h.past = omega (arith, h.last, same_end S s) in
            let f : end - 1 ≡ h.past + 1 = omega (arith, h.last, same_end S s) in
            record {
              proc = record { name = h.name; params = rows_of param h.params; ret_ty = optional as_type h.clause; body = over see h.body; is_function = true; is_static = is_set h.keeps; def_fn = is_set h.deffn };
              is = h.is;
              of = record {
                name = h.head.name_is;
                params = params_at h.head;
                ty = c.0;
                body = record { names = ns; strings = n; tree = h.body; stands = ends_at (sym c.1) (sym e) h.body_there; is = refl };
                function = refl;
                static = q ∙ ap (λ (x : ℕ). eqb (pay_of (get_or ws x 0)) 1) e ∙ h.keeps_set;
                def_fn = d ∙ ap (λ (x : ℕ). eqb (pay_of (get_or ws x 0)) 1) f ∙ h.deffn_set;
              };
              line_is = h.head.line_is;
            }

-- ---- from what was read to what the code asks

-- what was read of a statement is a procedure that stands there
pub some_proc : {ns : List ℕ} {n : ℕ} {k : Kind} {ws : List ℕ} {at : ℕ} {r : ProcAt} → StmtAt ns n k ws at → ProcIs ns n k ws at r → SomeProc ws r
some_proc S I = let h = I.shows S.line S.fields S.end S.stands in record { proc = h.proc; of = h.of }

module _ {ws : List ℕ} {r : ProcAt} (P : SomeProc ws r) where
  -- its body stands there
  pub proc_body : SomeBody ws r.body r.past
  proc_body = record { body = P.proc.body; there = P.of.body }

  -- and its parameters
  pub proc_params : SomeParams ws r.params r.count
  proc_params = record { params = P.proc.params; there = P.of.params }
