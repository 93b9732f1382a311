-- The bounds of a query's scans and of all sets of its entries, from the statistics of its tables.
use Rattle.std.specs.Prelude.{ℕ, List}
use Rattle.degree_sequences.specs.Degrees.{degree_list}
use Rattle.query_types.specs.declared.types.Query.{Query}
use Rattle.tree_bounds.specs.TreeBounds.{EntryBounds}
use Rattle.sql_meaning.specs.Tables.{Tables, row_counts}
use Rattle.query_bounds.specs.Bounds.{scan_bounds, set_bounds}
use Rattle.table_stats.specs.Columns.{column_values, as_first_rows}
use Rattle.gathered_stats.specs.Statistics.{statistics_of}

-- the bound of each entry's scan, in FROM order, at an accuracy
abbrev pub scan_bounds_of : Query → Tables → ℕ → List ℕ
scan_bounds_of query tables accuracy = scan_bounds query (statistics_of tables accuracy)

-- the bound of each set of entries. A set's index is the number whose bits are the set's entries
abbrev pub set_bounds_of : Query → Tables → ℕ → List ℕ
set_bounds_of query tables accuracy = set_bounds query (statistics_of tables accuracy)

-- bounds of entries without compression: the number of rows of each table, and the degree list of each column
abbrev pub whole_columns : Tables → EntryBounds
whole_columns tables = record {
  rows = row_counts tables;
  list = λ entry column. degree_list (as_first_rows (column_values tables entry column));
}
