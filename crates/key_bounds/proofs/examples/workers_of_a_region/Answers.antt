use Rattle.key_bounds.proofs.SmallBounds.{manager_keyed, manager_plain}
use Rattle.key_bounds.proofs.examples.workers_of_a_region.Goals as goal

pub returns-clause-plain : goal.returns-clause-plain
returns-clause-plain c = manager_plain

pub returns-clause-keyed : goal.returns-clause-keyed
returns-clause-keyed c = manager_keyed
