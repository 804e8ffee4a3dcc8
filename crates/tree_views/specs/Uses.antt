-- Where a statement names arrays: its assignment targets that `subscript_count` looks at first, and the expressions of its own in the order of
-- `for_each_expr_mut` (sema.rs). E stands for an expression.
use Rattle.std.specs.Prelude.{List, [], ◌∷◌, ◌++◌}
use Rattle.tree_stmt.specs.Sorts.{Sorts, Kind, sorts, label, label_name, let', print, input, line_input, if, for, while, do_loop, goto, gosub, return, on_goto, on_gosub, dim, declare, shared, static, redim, sub, function, call, mid_assign, swap, const, exit_loop, exit_proc, option_base, type_def, field_assign, data', read, def_type, beep, erase, raise_error, on_error, resume, locate, color, randomize, restore, cls, select_case, end', stop, open', close, width, field', set_field, get_put, lock}
use Rattle.tree_stmt.specs.Tree.{Shape, row, Tree, word, value, Stmt, list, part, this, that, done, cons, none, more}
use Rattle.tree_views.specs.View.{LValue, lvalue, optional, expressions, items}

-- the expressions that stand in no nested statement, in the words' order
unfoldable pub own : {E : Type 0} {i : Shape} → Tree E i → List E
own (word x) = []
own (value e) = e ∷ []
own (Stmt k line r) = []
own (list rs) = own rs
own (part r) = own r
own (this r) = own r
own (that v) = own v
own done = []
own (cons v r) = own v ++ own r
own none = []
own (more r rs) = own r ++ own rs

-- its targets, and its expressions in order
pub record Uses (E : Type 0) : Type 0 where
  pub targets : List (LValue E)
  pub exprs : List E

-- no such target, and the words' order (`plain` of collect_definition/specs/Diagnostics.antt is a message without a name)
unfoldable pub plain : {E : Type 0} {ss : Sorts} → Tree E (row ss) → Uses E
plain r = record { targets = []; exprs = own r }

-- PRINT's USING comes before its items, the file number of INPUT and LINE INPUT before the targets' indices
unfoldable pub uses : {E : Type 0} (k : Kind) → Tree E (row (sorts k)) → Uses E
unfolding sorts
uses label r = plain r
uses label_name r = plain r
uses let' (cons (word x) (cons is e)) = record { targets = record { name = x; indices = optional expressions is } ∷ []; exprs = own is ++ own e }
uses print (cons file (cons its (cons (word newline) (cons using' (cons (word write) done))))) =
    record { targets = []; exprs = own file ++ (own using' ++ own its) }
uses input (cons prompt (cons (word query) (cons vars (cons file done)))) = record { targets = items lvalue vars; exprs = own file ++ own vars }
uses line_input (cons prompt (cons (part var) (cons file done))) = record { targets = lvalue var ∷ []; exprs = own file ++ own var }
uses if r = plain r
uses for r = plain r
uses while r = plain r
uses do_loop r = plain r
uses goto r = plain r
uses gosub r = plain r
uses return r = plain r
uses on_goto r = plain r
uses on_gosub r = plain r
uses dim r = plain r
uses declare r = plain r
uses shared r = plain r
uses static r = plain r
uses redim r = plain r
uses sub r = plain r
uses function r = plain r
uses call r = plain r
uses mid_assign r = plain r
uses swap (cons (part a) (cons (part b) done)) = record { targets = lvalue a ∷ lvalue b ∷ []; exprs = own a ++ own b }
uses const r = plain r
uses exit_loop r = plain r
uses exit_proc r = plain r
uses option_base r = plain r
uses type_def r = plain r
uses field_assign r = plain r
uses data' r = plain r
uses read (cons vars done) = record { targets = items lvalue vars; exprs = own vars }
uses def_type r = plain r
uses beep r = plain r
uses erase r = plain r
uses raise_error r = plain r
uses on_error r = plain r
uses resume r = plain r
uses locate r = plain r
uses color r = plain r
uses randomize r = plain r
uses restore r = plain r
uses cls r = plain r
uses select_case r = plain r
uses end' r = plain r
uses stop r = plain r
uses open' r = plain r
uses close r = plain r
uses width r = plain r
uses field' r = plain r
uses set_field r = plain r
uses get_put r = plain r
uses lock r = plain r
