use Rattle.std.proofs.Common.{◌≡◌, take}
use Rattle.query_names.specs.Names.{table_names}
use Rattle.query_names.proofs.catalog.table_names.Given as goal

abbrev pub invariant-all : goal.invariant-all
invariant-all l = l.names ≡ take l.table-index (table_names l.schema)
