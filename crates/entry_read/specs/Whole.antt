-- A program that was read, with its erased names or without, is all of the words, and at most as deep as a tree may be. Assumes nothing.
use Rattle.std.specs.Prelude.{ℕ, ◌≤◌, ◌≡◌, refl, Bool, true, false, List, eqb, length}
use Rattle.std.proofs.Common.{arith, eqb-true}
use Rattle.base_words.specs.Word.{pick}
use Rattle.base_words.specs.Told.{Told, stops, gives, after, unless}
use Rattle.tree_expr.specs.Got.{Got, got, wrong, deep}
use Rattle.tree_stmt.specs.Tree.{depth_t, Program}
use Rattle.tree_stmt.specs.Stands.{Stands}
use Rattle.tree_stmt.specs.Reader.{program_at}
use Rattle.tree_stmt.proofs.Sound.{program_sound}
use Rattle.entry_read.specs.Program.{whole_of, erased_from, program_of, accepted_of}

-- the program stands from the first word to the last, at most 100 deep
pub record Whole (ws ns : List ℕ) (n : ℕ) (p : Program) : Type 0 where
  pub stands : Stands ws ns n 0 p (length ws)
  pub shallow : depth_t p ≤ 100

-- a call that stops gives nothing
pub stops_gives : {A : Type 0} {n p : ℕ} {a : A} → stops n p ≡ gives a → ⊥
stops_gives e = let z : ◌≡◌ {A = ℕ} 0 1 = cc in omega arith

whole_gives : {A : Type 0} (ws : List ℕ) (g : Got A) {p : A} → whole_of ws g ≡ gives p → g ≡ got p (length ws)
unfolding whole_of
whole_gives ws (got a m) {p} e = go (eqb m (length ws)) refl e
  where
    go : (b : Bool) → eqb m (length ws) ≡ b → pick b (gives a) (stops 2 m) ≡ gives p → got a m ≡ got p (length ws)
    go true h e = let q : m ≡ length ws = eqb-true m (length ws) h in let r : a ≡ p = cc in rw (q, r) refl
    go false h e = absurd (stops_gives e)
whole_gives ws (wrong p) e = absurd (stops_gives e)
whole_gives ws (deep p) e = absurd (stops_gives e)

-- a program that was read stands from the first word to the last, no deeper than 100
pub program_whole : (ns ws : List ℕ) (p : Program) → program_of ns ws ≡ gives p → Whole ws ns (length ns) p
unfolding program_of
program_whole ns ws p e =
    let f = program_sound ws ns (length ns) p (length ws) (whole_gives ws (program_at ws ns (length ns)) e) in
    record { stands = record { wrote = f.wrote; valid = f.valid }; shallow = f.deep }

erased_gives : (t : Told Program) (b : Bool) {p : Program} → after t (λ q. unless b 4 0 (gives q)) ≡ gives p → t ≡ gives p
unfolding after unless
erased_gives (stops n m) b e = absurd (stops_gives e)
erased_gives (gives q) true e = e
erased_gives (gives q) false e = absurd (stops_gives e)

-- so does one that was accepted with its erased names
pub accepted_whole : (ns ws erased : List ℕ) (p : Program) → accepted_of ns ws erased ≡ gives p → Whole ws ns (length ns) p
unfolding accepted_of
accepted_whole ns ws erased p e = program_whole ns ws p (erased_gives (program_of ns ws) (erased_from ns 0 erased) e)
