use Rattle.tree_bounds.proofs.SmallSets.{empty_is, single_is}
use Rattle.tree_bounds.proofs.laws.small_sets_have_plain_bounds.Goals as goal

pub returns-clause-empty : goal.returns-clause-empty
returns-clause-empty c = empty_is

pub returns-clause-single : goal.returns-clause-single
returns-clause-single c = single_is
