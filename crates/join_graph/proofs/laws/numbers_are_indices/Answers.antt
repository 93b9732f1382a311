use Rattle.join_graph.proofs.Numbered.{number_passes, passing_is_numbered}
use Rattle.join_graph.proofs.laws.numbers_are_indices.Goals as goal

pub returns : goal.returns
returns c = λ test conds k. (number_passes test conds k, passing_is_numbered test conds k)
