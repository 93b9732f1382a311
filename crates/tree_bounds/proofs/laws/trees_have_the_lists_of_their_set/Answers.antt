use Rattle.tree_bounds.proofs.Agreeing.{have_lists}
use Rattle.tree_bounds.proofs.laws.trees_have_the_lists_of_their_set.Goals as goal

pub returns : goal.returns
returns c = λ b es subset turn trees all h. have_lists es subset turn trees all b h
