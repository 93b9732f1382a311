use Rattle.berge_tree.proofs.Tested.{has_within}
use Rattle.berge_tree.proofs.laws.has_entries_implies_within.Goals as goal

pub returns : goal.returns
returns c = has_within
