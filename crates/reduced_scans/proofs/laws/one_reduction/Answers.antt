use Rattle.join_graph.specs.Conjuncts.{equalities_of}
use Rattle.level_bounds.specs.Keys.{are_equal_at}
use Rattle.join_steps.specs.Lists.{scans_of}
use Rattle.reduced_scans.proofs.OneReduced.{one_reduced}
use Rattle.join_steps.proofs.WholeScans.{scan_ascends}
use Rattle.reduced_scans.proofs.SomeReduced.{some_reduced}
use Rattle.reduced_scans.proofs.laws.one_reduction.Goals as goal

pub returns-clause-some : goal.returns-clause-some
returns-clause-some c query tables = some_reduced (scans_of query tables) (equalities_of query) (are_equal_at tables) (scan_ascends query tables)

pub returns-clause-one : goal.returns-clause-one
returns-clause-one c query tables a b = one_reduced (scans_of query tables) (equalities_of query) (are_equal_at tables) a b
