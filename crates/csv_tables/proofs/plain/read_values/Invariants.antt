use Rattle.csv_tables.specs.Fields.{record_of}
use Rattle.csv_tables.proofs.RowFacts.{RowSoFar}
use Rattle.csv_tables.proofs.plain.read_values.Given as goal

abbrev pub invariant-columns : goal.invariant-columns
invariant-columns l = RowSoFar l.number l.at l.columns l.places (record_of l.bytes l.fields) l.initial.pool l.pool l.cells.items
