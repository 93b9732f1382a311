use Rattle.safebound_plans.proofs.Filling.{AreFirstLevels}
use Rattle.safebound_plans.proofs.ordering.write_levels.Given as goal

abbrev pub invariant-loop-place : goal.invariant-loop-place
invariant-loop-place l = AreFirstLevels l.order l.levels l.initial.into l.into l.place
