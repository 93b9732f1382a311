use Rattle.berge_tree.proofs.NoCycle.{has_no_cycle}
use Rattle.berge_tree.proofs.laws.no_cycle_of_classes.Goals as goal

pub returns : goal.returns
returns c = has_no_cycle
