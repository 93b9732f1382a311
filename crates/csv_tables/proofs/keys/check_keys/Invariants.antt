use Rattle.std.proofs.Common.{◌≡◌, drop}
use Rattle.csv_tables.specs.Cells.{rows_of_columns}
use Rattle.csv_tables.specs.Keys.{rows_with_keys}
use Rattle.csv_tables.specs.Reads.{kinds_of}
use Rattle.csv_tables.proofs.keys.check_keys.Given as goal

abbrev pub invariant-keys : goal.invariant-keys
invariant-keys l =
    let stated = rows_of_columns l.pool (kinds_of l.table.columns) l.columns l.rows in
    rows_with_keys l.table.keys stated ≡ rows_with_keys (drop l.key-index l.table.keys) stated
