use Rattle.level_bounds.proofs.OwnConjuncts.{names_alike, scan_by_own, scan_by_number}
use Rattle.level_bounds.proofs.laws.scans_test_own_conjuncts.Goals as goal

pub returns-clause-same : goal.returns-clause-same
returns-clause-same c = names_alike

pub returns-clause-scan : goal.returns-clause-scan
returns-clause-scan c = scan_by_own

pub returns-clause-by_number : goal.returns-clause-by_number
returns-clause-by_number c = scan_by_number
