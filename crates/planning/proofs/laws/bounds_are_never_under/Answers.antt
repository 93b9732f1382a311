use Rattle.planning.proofs.NeverUnder.{level_never_under, scan_never_under}
use Rattle.planning.proofs.laws.bounds_are_never_under.Goals as goal

pub returns-clause-scans : goal.returns-clause-scans
returns-clause-scans c = scan_never_under

pub returns-clause-sets : goal.returns-clause-sets
returns-clause-sets c = level_never_under
