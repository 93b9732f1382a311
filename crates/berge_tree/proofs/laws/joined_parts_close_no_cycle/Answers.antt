use Rattle.berge_tree.proofs.Tested.{joins_no_cycle}
use Rattle.berge_tree.proofs.laws.joined_parts_close_no_cycle.Goals as goal

pub returns : goal.returns
returns c = joins_no_cycle
