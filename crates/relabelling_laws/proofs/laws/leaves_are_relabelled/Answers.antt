use Rattle.relabelling_laws.proofs.Columns.{cuts_are, leaf_is}
use Rattle.relabelling_laws.proofs.laws.leaves_are_relabelled.Goals as goal

pub returns-clause-cuts : goal.returns-clause-cuts
returns-clause-cuts c = cuts_are

pub returns-clause-leaf : goal.returns-clause-leaf
returns-clause-leaf c = leaf_is
