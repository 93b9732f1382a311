-- The statistics of the widened table, filtered by the carrier's own conjuncts. They bound the rows that refer to the carrier's scan.
use Rattle.std.specs.Prelude.{ℕ, List}
use Rattle.berge_tree.specs.declared.edges.Edge.{Edge}
use Rattle.query_types.specs.declared.types.Query.{Query}
use Rattle.sql_meaning.specs.Tables.{Tables}
use Rattle.filtered_lists.specs.Lists.{ColumnLists, RowCounts, filtered_list, row_bound}
use Rattle.table_stats.specs.Columns.{column_values}
use Rattle.table_stats.specs.Statistics.{entry_counts, lists_over}
use Rattle.key_carriers.specs.Widened.{referred, referring, tables_at, values_at}

-- the lists of a joined column of the referring entry, by values in the carrier's filter columns, at an accuracy
abbrev pub carried_lists : Tables → ℕ → Edge → ℕ → ColumnLists
carried_lists tables accuracy e column =
    lists_over accuracy (column_values (tables_at tables (referred tables e)) e.right.entry) (values_at tables e.left.entry column (referring tables e))

-- the numbers of rows, by values in the carrier's filter columns
abbrev pub carried_counts : Tables → Edge → RowCounts
carried_counts tables e = entry_counts (tables_at tables (referred tables e)) e.right.entry

-- ---- the carried list and row bound, filtered by the carrier's own conjuncts

abbrev pub carried_list : Query → Tables → ℕ → Edge → ℕ → List ℕ
carried_list query tables accuracy e column = filtered_list (carried_lists tables accuracy e column) e.right.entry query.conjuncts

abbrev pub carried_rows : Query → Tables → Edge → ℕ
carried_rows query tables e = row_bound (carried_counts tables e) e.right.entry query.conjuncts
