use Rattle.std.proofs.Common.{◌≡◌}
use Rattle.stats_file_of_query.specs.Databases.{sections_of_cells}
use Rattle.stats_file_of_query.proofs.files.sections_of.Given as goal

abbrev pub invariant-loop-table : goal.invariant-loop-table
invariant-loop-table l = l.sections ≡ sections_of_cells l.query l.db l.accuracy l.table
