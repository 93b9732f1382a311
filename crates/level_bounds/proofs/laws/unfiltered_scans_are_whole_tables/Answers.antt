use Rattle.level_bounds.proofs.NearWhole.{whole_bounds, whole_scan}
use Rattle.level_bounds.proofs.laws.unfiltered_scans_are_whole_tables.Goals as goal

pub returns-clause-whole : goal.returns-clause-whole
returns-clause-whole c = whole_scan

pub returns-clause-bounded : goal.returns-clause-bounded
returns-clause-bounded c = whole_bounds
