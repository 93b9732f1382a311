use Rattle.std.proofs.Common.{◌≡◌, map, take}
use Rattle.schema_types.specs.Index.{table_index}
use Rattle.schema_types.proofs.scope.table_indexes.Given as goal

abbrev pub invariant-tables : goal.invariant-tables
invariant-tables l = l.found ≡ map (table_index l.text) (take l.table-index l.tables)
