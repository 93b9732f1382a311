use Rattle.counted_planning.proofs.InSets.{bound_levels, is_plan}
use Rattle.counted_planning.proofs.laws.counts_are_never_under.Goals as goal

pub returns : goal.returns
returns c = record { sets = bound_levels; plan = is_plan }
