use Rattle.tree_bounds.proofs.Scanned.{scanned_within}
use Rattle.tree_bounds.proofs.laws.scans_are_never_under.Goals as goal

pub returns : goal.returns
returns c = scanned_within
