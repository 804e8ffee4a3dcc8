-- Demand 3, proved: specs/Demand3.antt says it in words and has its terms. Assumes nothing.
use Rattle.std.specs.Prelude.{ℕ, ◌≡◌, List}
use Rattle.std.proofs.Math.Option.{some}
use Rattle.base_words.specs.Told.{gives}
use Rattle.law_equivalence.specs.Analysis.{Analysis, analysis, Accepted}
use Rattle.law_equivalence.specs.Demand3.{Demand3}
use Rattle.law_equivalence.proofs.AcceptedLaws.{accepted}
use Rattle.law_equivalence.proofs.Demand3Laws.{known_of, exactly_so, same_rows, same_diagnostics, again}

-- the demand: of any two programs that are accepted with the same strings and erased names
pub demand_3 : (bytes ends erased words words' : List ℕ) (first second : Analysis) → Accepted bytes ends erased words first → Accepted bytes ends erased words' second → Demand3 bytes ends first second
demand_3 bytes ends erased words words' first second a b =
    let k = known_of bytes ends erased words first a in
    let l = known_of bytes ends erased words' second b in
    record {
      exactly = exactly_so k l;
      whenever = λ e.
          record {
            rows = same_rows k l e;
            diagnostics = same_diagnostics k l e;
            first_again = λ at. again k at;
            second_again = λ at. rw (same_rows k l e) (again l at);
          };
    }

-- The same of what two runs give, each into lent buffers of whatever lengths for rows and diagnostics: a run that gives no number gives what an accepted
-- program is given.
pub demand_3_lent : (bytes ends erased words words' : List ℕ) (first second : Analysis) (r d at r' d' at' : ℕ) → analysis (some r) (some d) at bytes ends erased words ≡ gives first → analysis (some r') (some d') at' bytes ends erased words' ≡ gives second → Demand3 bytes ends first second
demand_3_lent bytes ends erased words words' first second r d at r' d' at' a b =
    demand_3 bytes ends erased words words' first second (accepted bytes ends erased words r d at first a) (accepted bytes ends erased words' r' d' at' second b)
