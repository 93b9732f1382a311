-- The statistics of a table's columns: the lists of each joined column, and numbers of rows.
use Rattle.std.specs.Prelude.{ℕ, ◌==◌, if◌then◌else◌, List, map, Option, Some, option_map, unwrap_or}
use Rattle.std.specs.List.{count_by, list_any}
use Rattle.csv_tables.specs.Values.{Value}
use Rattle.cond_stats.specs.Frequency.{frequent, remaining}
use Rattle.cond_stats.specs.Leaves.{in_node, leaf_of, node_size}
use Rattle.cond_stats.specs.Lists.{compressed_degrees, greatest, list_of_range, list_of_value}
use Rattle.degree_sequences.specs.Degrees.{degree}
use Rattle.filtered_lists.specs.Lists.{ColumnLists, RowCounts}
use Rattle.sql_meaning.specs.Tables.{Tables, row_counts}
use Rattle.table_stats.specs.Columns.{column_values, first_row, leaf_of_value, as_first_rows, paired, row_le}

-- the leaf of a value that ends a range, if the range has an end on this side
abbrev pub end_leaf : List Value → Option Value → Option ℕ
end_leaf values end = option_map (leaf_of_value values) end

-- ---- lists

-- The list of a joined column for a value of a filter column. It is the list of the value's rows if the value is frequent, otherwise the rest list
abbrev pub list_with : ℕ → List Value → List Value → Value → List ℕ
list_with accuracy filter joined value = list_of_value accuracy (paired filter joined) (Some (first_row filter value))

-- The list of a joined column for a range of a filter column; either end of the range may be missing. It is the list of the rows in the least node
-- that has the leaves of both ends. The low end may be above the high end
abbrev pub list_between : ℕ → List Value → List Value → Option Value → Option Value → List ℕ
list_between accuracy filter joined low high =
    list_of_range (row_le filter) accuracy (paired filter joined) (end_leaf filter low) (end_leaf filter high)

-- the lists of a joined column at an accuracy. `filters` gives the values of each filter column in the same rows
abbrev pub lists_over : ℕ → (ℕ → List Value) → List Value → ColumnLists
lists_over accuracy filters joined = record {
  whole = compressed_degrees accuracy (as_first_rows joined);
  equal = λ column value. list_with accuracy (filters column) joined value;
  range = λ range. list_between accuracy (filters range.column) joined range.low range.high;
}

-- the lists of a joined column of an entry
abbrev pub column_lists : Tables → ℕ → ℕ → ℕ → ColumnLists
column_lists tables accuracy entry joined = lists_over accuracy (column_values tables entry) (column_values tables entry joined)

-- ---- row counts

-- The number of rows with this value, if the value is frequent. Otherwise the number of rows of the most frequent among the
-- other values
abbrev pub count_with : List Value → Value → ℕ
count_with filter value =
    if list_any (λ other. other == first_row filter value) (frequent (as_first_rows filter))
    then degree (as_first_rows filter) (first_row filter value)
    else greatest (map (degree (as_first_rows filter)) (remaining (as_first_rows filter)))

-- the number of rows whose leaf is in the least node that has the leaves `first` and `last`
abbrev pub count_in_node : List Value → ℕ → ℕ → ℕ
count_in_node filter first last =
    count_by (λ number. in_node (node_size first last) first (leaf_of (row_le filter) (as_first_rows filter) number)) (as_first_rows filter)

-- The number of rows in the node of a range. Without a low end the range begins in leaf 0, without a high end it ends in leaf 31
abbrev pub count_between : List Value → Option Value → Option Value → ℕ
count_between filter low high = count_in_node filter (unwrap_or (end_leaf filter low) 0) (unwrap_or (end_leaf filter high) 31)

-- the row counts of an entry: of all rows, of the rows with a value in a column, and of the rows in a range of a column
abbrev pub entry_counts : Tables → ℕ → RowCounts
entry_counts tables entry = record {
  whole = row_counts tables entry;
  equal = λ column value. count_with (column_values tables entry column) value;
  range = λ range. count_between (column_values tables entry range.column) range.low range.high;
}
