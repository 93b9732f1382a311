use Rattle.std.proofs.Common.{◌≡◌, drop, length}
use Rattle.csv.specs.Records.{fields_of}
use Rattle.csv_tables.specs.Header.{column_places}
use Rattle.csv_tables.proofs.StepFacts.{ReadTo}
use Rattle.csv_tables.proofs.header.places_of.Given as goal

abbrev pub invariant-columns : goal.invariant-columns
invariant-columns l = record {
  read : ReadTo (column_places 0 l.columns (fields_of l.header)) l.places.items (column_places l.number (drop l.number l.columns) (fields_of l.header));
  lengths : length l.places.items ≡ l.number;
}
