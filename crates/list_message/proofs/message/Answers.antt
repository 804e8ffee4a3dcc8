-- message: the pieces at a code make its template; past the last there are none.
use Rattle.std.proofs.Common.{ℕ, zero, suc, ◌≡◌, ◌≤◌, ◌<◌, true, List, [], ◌∷◌, map, length, get_or, Option, Some, None, Bor, refl, sym, ap, ◌∙◌, arith}
use mathlib.Core.List.{flat_map}
use Rattle.std.specs.List.{list_all}
use Rattle.std.specs.Slice.{IsItemAt}
use Rattle.std.proofs.Math.ListN.{get_or-eq_default}
use Rattle.std.proofs.lemmas.List.{length-map}
use Rattle.list_message.specs.declared.Piece.{Piece}
use Rattle.list_message.specs.Table.{table}
use Rattle.list_message.specs.Pieces.{template, plain}
use Rattle.list_message.proofs.Laws.{both}
use Rattle.list_message.proofs.message.Goals as goal

at_code : (ms : List (Bor (List Piece))) (ts : List (List ℕ)) → map (λ m. template m.now) ms ≡ ts → list_all (λ m. list_all plain m.now) ms ≡ true → (code : ℕ) (m : Bor (List Piece)) → code < length ms → m ≡ get_or ms code m → (template m.now ≡ get_or ts code []) × (list_all plain m.now ≡ true)
at_code [] ts e h code m l i = absurd (omega arith)
at_code (x ∷ ms) ts e h zero m l i = rw (← e, i) (refl, (both (list_all plain x.now) (list_all (λ m. list_all plain m.now) ms) h).0)
at_code (x ∷ ms) ts e h (suc code) m l i = rw (← e) (at_code ms _ refl (both (list_all plain x.now) (list_all (λ m. list_all plain m.now) ms) h).1 code m (omega arith) i)

-- the code has a message
found : (ms : List (Bor (List Piece))) → map (λ m. template m.now) ms ≡ table → list_all (λ m. list_all plain m.now) ms ≡ true → (code : ℕ) (r : Option (Bor (Bor (List Piece)))) (p : Bor (Bor (List Piece))) → IsItemAt ms code r → r ≡ Some p → (template p.now.now ≡ get_or table code []) × (list_all plain p.now.now ≡ true)
found ms e h code r p i q =
    let j = rw q at i in
    at_code ms table e h code p.now j.3.0 j.1

-- it has none
beyond : (ms : List (Bor (List Piece))) → map (λ m. template m.now) ms ≡ table → (code : ℕ) (r : Option (Bor (Bor (List Piece)))) → IsItemAt ms code r → r ≡ None → template [] ≡ get_or table code []
unfolding template flat_map
beyond ms e code r i q =
    let past : length ms ≤ code = (rw q at i).3 in
    let same : length ms ≡ length table = sym (length-map ms (λ m. template m.now)) ∙ ap length e in
    sym (get_or-eq_default table [] (omega arith))

pub returns-in-Some : goal.returns-in-Some
returns-in-Some c = found c.args.messages.now c.requires.0 c.requires.1 c.args.code c.get.result c.in-Some.pieces c.get.ensures.lookup c.in-Some.is

pub returns-in-None : goal.returns-in-None
returns-in-None c = (beyond c.args.messages.now c.requires.0 c.args.code c.get.result c.get.ensures.lookup c.in-None.is, refl)
