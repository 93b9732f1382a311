use Rattle.table_stats.proofs.DatabaseColumns.{cells_equal, cells_range, cells_whole}
use Rattle.table_stats.proofs.laws.cells_have_the_same_lists.Goals as goal

pub returns-clause-whole : goal.returns-clause-whole
returns-clause-whole c = cells_whole

pub returns-clause-equal : goal.returns-clause-equal
returns-clause-equal c = cells_equal

pub returns-clause-range : goal.returns-clause-range
returns-clause-range c = cells_range
