use Rattle.std.proofs.Common.{◌≡◌, take}
use Rattle.query_names.specs.Names.{column_names}
use Rattle.query_names.proofs.catalog.TableByName.new.Given as goal

abbrev pub invariant-all : goal.invariant-all
invariant-all l = l.columns ≡ take l.column-index (column_names l.table)
