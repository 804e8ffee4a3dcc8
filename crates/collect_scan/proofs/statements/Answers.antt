-- A list of statements is scanned to the words' end. Assumes nothing.
use Rattle.collect_scan.proofs.Walk.{whole_scanning, whole_scanned}
use Rattle.collect_scan.proofs.statements.Goals as goal

pub scan-requires : goal.scan-requires
scan-requires c = (whole_scanning c.requires.0, c.requires.1)

pub returns : goal.returns
returns c = whole_scanned c.requires.0 c.scan.ensures
