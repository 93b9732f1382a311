use Rattle.std.proofs.Common.{◌≡◌, take}
use Rattle.schema_types.specs.Declarations.{table_names}
use Rattle.schema_types.proofs.scope.table_names.Given as goal

abbrev pub invariant-tables : goal.invariant-tables
invariant-tables l = l.found ≡ table_names l.text (take l.table-index l.tables)
