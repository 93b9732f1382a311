use Rattle.set_bounds.proofs.Forests.{forest_within}
use Rattle.set_bounds.proofs.laws.fewer_entries_close_no_cycle.Goals as goal

pub returns : goal.returns
returns c = forest_within
