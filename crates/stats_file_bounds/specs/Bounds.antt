-- The bounds of a query from a statistics file that has all statistics that the query needs.
use Rattle.std.specs.Prelude.{ℕ, List}
use Rattle.stats_file_bounds.specs.FileStatistics.{stats_file_statistics}
use Rattle.query_bounds.specs.Bounds.{scan_bounds, set_bounds}
use Rattle.query_types.specs.declared.types.Query.{Query}
use Rattle.stats_file.specs.declared.types.StatsFile.{StatsFile}

-- the bound of each entry's scan, in FROM order
abbrev pub scan_bounds_of_file : Query → StatsFile → List ℕ
scan_bounds_of_file query file = scan_bounds query (stats_file_statistics query file)

-- the bound of each set of entries. A set's index is the number whose bits are the set's entries
abbrev pub set_bounds_of_file : Query → StatsFile → List ℕ
set_bounds_of_file query file = set_bounds query (stats_file_statistics query file)
