use Rattle.query_bounds.proofs.SmallPair.{pair_scans, pair_sets}
use Rattle.query_bounds.proofs.examples.pairs.Goals as goal

pub returns-clause-scans : goal.returns-clause-scans
returns-clause-scans c = pair_scans

pub returns-clause-sets : goal.returns-clause-sets
returns-clause-sets c = pair_sets
