use Rattle.plan_answers.proofs.BoundsListed.{list_is_unique, length-bounds, at_set}
use Rattle.plan_answers.proofs.laws.bounds_of_all_sets.Goals as goal

pub returns : goal.returns
returns c = record { one = list_is_unique; length = length-bounds; at_set = at_set }
