-- The statistics of a joined column by the values of a filter column, in the form that a file has.
use Rattle.std.specs.Prelude.{ℕ, Bool, List, map}
use Rattle.csv_tables.specs.Cells.{value_of_cell}
use Rattle.csv_tables.specs.Values.{Value}
use Rattle.csv_tables.specs.declared.types.Cells.{Cells}
use Rattle.cond_stats.specs.Columns.{cell_le}
use Rattle.cond_stats.specs.Leaves.{cuts}
use Rattle.cond_stats.specs.Lists.{rest, whole}
use Rattle.cond_stats.specs.Rows.{filter_values}
use Rattle.column_stats.specs.declared.stats.FrequentList.{FrequentList}
use Rattle.column_stats.specs.Nodes.{node_lists}
use Rattle.column_stats.specs.Pairs.{kind_of_column, rows_of_pair}
use Rattle.column_stats.specs.Stats.{frequent_lists}
use Rattle.sql_meaning.specs.Tables.{Tables}
use Rattle.stats_file.specs.declared.types.Datum.{Datum}
use Rattle.stats_file.specs.declared.types.PairStats.{PairStats}
use Rattle.table_stats.specs.Columns.{column_values, paired, row_le, value_of_row}
use Rattle.stats_file_of_query.specs.Data.{datum_of}

-- a frequent value and its list. Values are coded by numbers, and `value_of` decodes them
abbrev pub frequent_in : (ℕ → Datum) → FrequentList → Datum × List ℕ
frequent_in value_of frequent = (value_of frequent.cell, frequent.list)

-- the statistics of rows at an accuracy. A row is a filter value and a joined key. Filter values are coded by numbers: `at_most` is the order of
-- these numbers, and `value_of` decodes them. `filter` and `joined` are the positions of the two columns in their table
abbrev pub pair_stats_of : (ℕ → ℕ → Bool) → (ℕ → Datum) → ℕ → List (ℕ × ℕ) → ℕ → ℕ → PairStats
pair_stats_of at_most value_of accuracy rows filter joined = record {
  filter = filter;
  joined = joined;
  whole = whole accuracy rows;
  frequent = map (frequent_in value_of) (frequent_lists accuracy rows);
  rest = rest accuracy rows;
  cuts = map value_of (cuts at_most (filter_values rows));
  nodes = node_lists at_most accuracy rows;
}

-- the value of a column in this row
abbrev pub datum_of_row : List Value → ℕ → Datum
datum_of_row values row = datum_of (value_of_row values row)

-- the statistics of two columns of values. The code of a value is the number of the first row that has it
abbrev pub pair_of_values : ℕ → List Value → List Value → ℕ → ℕ → PairStats
pair_of_values accuracy filters keys filter joined = pair_stats_of (row_le filters) (datum_of_row filters) accuracy (paired filters keys) filter joined

-- the statistics of two columns of an entry's table
abbrev pub pair_in_table : Tables → ℕ → ℕ → ℕ → ℕ → PairStats
pair_in_table tables accuracy entry filter joined =
    pair_of_values accuracy (column_values tables entry filter) (column_values tables entry joined) filter joined

-- the value that a cell of this column has
abbrev pub datum_of_cell : List (List ℕ) → Cells → ℕ → ℕ → Datum
datum_of_cell texts cells column cell = datum_of (value_of_cell texts (kind_of_column cells column) cell)

-- the statistics of two columns of a table's cells. The code of a value is its cell
abbrev pub pair_in_cells : List (List ℕ) → Cells → ℕ → ℕ → ℕ → PairStats
pair_in_cells texts cells accuracy filter joined =
    pair_stats_of (cell_le texts (kind_of_column cells filter)) (datum_of_cell texts cells filter) accuracy (rows_of_pair cells filter joined) filter joined
