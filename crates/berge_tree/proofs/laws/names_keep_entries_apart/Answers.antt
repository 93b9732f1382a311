use Rattle.berge_tree.proofs.NoCycle.{apart_by}
use Rattle.berge_tree.proofs.laws.names_keep_entries_apart.Goals as goal

pub returns : goal.returns
returns c = apart_by
