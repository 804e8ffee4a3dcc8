-- A program is one item of a scan. Assumes nothing.
use Rattle.resolve_scan.proofs.Scanning.{ready_scan, program_done}
use Rattle.resolve_scan.proofs.resolve_with.Goals as goal

pub scan-requires : goal.scan-requires
scan-requires c = ready_scan c.requires.0

pub returns : goal.returns
returns c = program_done c.requires.0 c.scan.ensures
