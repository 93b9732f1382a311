use Rattle.csv.specs.Records.{fields_of}
use Rattle.csv_tables.proofs.RowFacts.{RowSoFar}
use Rattle.csv_tables.proofs.rows.read_row.Given as goal

abbrev pub invariant-columns : goal.invariant-columns
invariant-columns l = RowSoFar l.number l.at l.columns l.places (fields_of l.row) l.initial.pool l.pool l.cells.items
