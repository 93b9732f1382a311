use Rattle.std.proofs.Common.{◌≡◌, ◌++◌, take, drop}
use Rattle.csv_tables.specs.Reads.{add_row}
use Rattle.csv_tables.proofs.rows.push_row.Given as goal

abbrev pub invariant-columns : goal.invariant-columns
invariant-columns l = l.columns.items ≡ add_row (take l.at l.initial.columns.items) (take l.at l.cells) ++ drop l.at l.initial.columns.items
