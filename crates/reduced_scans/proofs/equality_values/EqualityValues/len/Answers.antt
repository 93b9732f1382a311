use Rattle.reduced_scans.proofs.Pairs.{different_pairs}
use Rattle.reduced_scans.proofs.equality_values.EqualityValues.len.Goals as goal

pub returns-clause-different : goal.returns-clause-different
returns-clause-different c = rw (← c.self.view_is) (different_pairs c.self.inside.pairs.keys c.len.ensures.unique)
