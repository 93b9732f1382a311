use Rattle.std.proofs.Common.{◌≡◌, length, take}
use Rattle.csv_tables.specs.FirstPlaces.{have_same_cells, AreFirsts}
use Rattle.csv_tables.proofs.keys.repeat_of_key.Given as goal

abbrev pub invariant-columns : goal.invariant-columns
invariant-columns l = record {
  lengths : length l.first_places.items ≡ l.rows;
  firsts : AreFirsts (have_same_cells l.columns (take l.column-index l.key)) l.first_places.items;
}
