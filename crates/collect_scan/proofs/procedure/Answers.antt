-- A procedure is a SUB or a FUNCTION. Assumes nothing.
use Rattle.collect_scan.proofs.Match.{sub_there, sub_done, function_there, function_done, function_kind_lem}
use Rattle.collect_scan.proofs.procedure.Goals as goal

pub sub-requires : goal.sub-requires
sub-requires c = sub_there c.requires c.if-words-at-eq84.true

pub returns-then-words-at-eq84 : goal.returns-then-words-at-eq84
returns-then-words-at-eq84 c = λ erased. sub_done c.if-words-at-eq84.true c.sub.ensures

pub function-requires : goal.function-requires
function-requires c = function_there c.requires (function_kind_lem c.requires c.if-words-at-eq84.false)

pub returns-else-words-at-eq84 : goal.returns-else-words-at-eq84
returns-else-words-at-eq84 c = λ erased. function_done (function_kind_lem c.requires c.if-words-at-eq84.false) c.function.ensures
