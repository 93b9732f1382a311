use Rattle.level_bounds.proofs.CellKeys.{cells_join, characters_differ, keys_are_cells}
use Rattle.level_bounds.proofs.laws.cells_are_keys.Goals as goal

pub returns-clause-cells : goal.returns-clause-cells
returns-clause-cells c = cells_join

pub returns-clause-columns : goal.returns-clause-columns
returns-clause-columns c = keys_are_cells

pub returns-clause-texts : goal.returns-clause-texts
returns-clause-texts c = characters_differ
