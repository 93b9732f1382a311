use Rattle.std.proofs.Common.{◌≡◌, ◌<◌, ◌≤◌, ◌-◌, drop, false, get_or, length}
use Rattle.std.specs.Prelude.{IsUtf8}
use Rattle.plain_records.specs.Plain.{ends_line, plain_records}
use Rattle.csv_tables.proofs.TableFacts.{RowsSoFar}
use Rattle.csv_tables.proofs.plain.read_plain_rows.Given as goal

abbrev pub invariant-rows : goal.invariant-rows
invariant-rows l = record {
  within : l.at ≤ length l.bytes;
  cut : IsUtf8 (drop l.at l.bytes);
  at_text : l.at < length l.bytes → ends_line (get_or l.bytes l.at 0) ≡ false;
  lengths : length l.fields ≡ l.width;
  values_long : length l.values ≡ l.width;
  so_far : RowsSoFar l.columns l.places l.width (plain_records (drop l.start l.bytes)) (plain_records (drop l.at l.bytes)) l.initial.pool l.pool l.found.items l.rows;
}

abbrev pub decreases-rows : goal.decreases-rows
decreases-rows l = length l.bytes - l.at
