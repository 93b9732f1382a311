use Rattle.level_bounds.proofs.Reordering.{rearranged, as_many}
use Rattle.level_bounds.proofs.laws.levels_are_of_sets.Goals as goal

pub returns-clause-rearranged : goal.returns-clause-rearranged
returns-clause-rearranged c = rearranged

pub returns-clause-as_many : goal.returns-clause-as_many
returns-clause-as_many c = as_many
