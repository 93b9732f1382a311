use Rattle.std.proofs.Common.{◌≡◌, take}
use Rattle.csv_tables.specs.Reads.{kinds_of}
use Rattle.csv_tables.proofs.table.kinds.Given as goal

abbrev pub invariant-columns : goal.invariant-columns
invariant-columns l = l.kinds.items ≡ kinds_of (take l.column-index l.columns)
