use Rattle.std.proofs.Common.{◌≡◌, map}
use Rattle.sql_meaning.specs.Tables.{tables_of}
use Rattle.join_steps.specs.Columns.{column_cells}
use Rattle.key_carriers.specs.Cells.{cells_found, column_at_place, widened_to}
use Rattle.key_carriers.proofs.rows.widened_rows.Given as goal

abbrev pub invariant-rows : goal.invariant-rows
invariant-rows l = (l.made.rows.items ≡ map (λ pair. pair.0) (widened_to (tables_of l.db) l.fn.edge l.row))
    × (l.made.others.items ≡ map (λ pair. pair.1) (widened_to (tables_of l.db) l.fn.edge l.row))
    × (cells_found l.key ≡ column_cells l.db (column_at_place l.fn.edge.right))
