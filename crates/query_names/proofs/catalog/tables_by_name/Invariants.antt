use Rattle.std.proofs.Common.{◌≡◌, map, take}
use Rattle.query_names.proofs.catalog.tables_by_name.Given as goal

abbrev pub invariant-all : goal.invariant-all
invariant-all l = map (λ listed. listed.table.now) l.found ≡ take l.table-index l.schema.tables
