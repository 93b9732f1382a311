use Rattle.tree_rows.proofs.FewBytes.{bytes_below_most}
use Rattle.tree_rows.proofs.memory.trees_fit_memory.Goals as goal

pub returns : goal.returns
returns c = bytes_below_most
