use Rattle.key_bounds.proofs.SmallBounds.{region_keyed, region_plain, region_stray, region_undeclared}
use Rattle.key_bounds.proofs.examples.orders_of_a_region.Goals as goal

pub returns-clause-plain : goal.returns-clause-plain
returns-clause-plain c = region_plain

pub returns-clause-keyed : goal.returns-clause-keyed
returns-clause-keyed c = region_keyed

pub returns-clause-stray : goal.returns-clause-stray
returns-clause-stray c = region_stray

pub returns-clause-undeclared : goal.returns-clause-undeclared
returns-clause-undeclared c = region_undeclared
