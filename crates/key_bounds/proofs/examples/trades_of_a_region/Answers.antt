use Rattle.key_bounds.proofs.SmallBounds.{both_keyed, both_plain}
use Rattle.key_bounds.proofs.examples.trades_of_a_region.Goals as goal

pub returns-clause-plain : goal.returns-clause-plain
returns-clause-plain c = both_plain

pub returns-clause-keyed : goal.returns-clause-keyed
returns-clause-keyed c = both_keyed
