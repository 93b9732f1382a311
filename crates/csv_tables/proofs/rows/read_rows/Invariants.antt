use Rattle.std.proofs.Common.{length}
use Rattle.csv_tables.specs.Records.{unread_records, IsReading}
use Rattle.csv_tables.proofs.TableFacts.{RowsSoFar}
use Rattle.csv_tables.proofs.rows.read_rows.Given as goal

abbrev pub invariant-rows : goal.invariant-rows
invariant-rows l = record {
  reading : IsReading l.reader;
  so_far : RowsSoFar l.columns l.places l.width (unread_records l.initial.reader) (unread_records l.reader) l.initial.pool l.pool l.found.items l.rows;
}

abbrev pub decreases-rows : goal.decreases-rows
decreases-rows l = length (unread_records l.reader)
