-- Bounds from lists of rows, one list for each entry, in place of statistics.
use Rattle.std.specs.Prelude.{ℕ, List, length, map}
use Rattle.csv_tables.specs.Values.{Value}
use Rattle.query_types.specs.declared.types.Query.{Query}
use Rattle.cond_stats.specs.Lists.{compressed_degrees}
use Rattle.join_graph.specs.Conjuncts.{equalities_of}
use Rattle.tree_bounds.specs.TreeBounds.{EntryBounds}
use Rattle.set_bounds.specs.AllSets.{bounds_of_sets}
use Rattle.sql_meaning.specs.Tables.{Tables}
use Rattle.filtered_lists.specs.Standing.{value_in_row}
use Rattle.table_stats.specs.Columns.{as_first_rows}
use Rattle.join_steps.specs.Lists.{list_at, listed_row_count}

-- the values of a column in the rows of its entry's list
abbrev pub listed_values : Tables → List (List ℕ) → ℕ → ℕ → List Value
listed_values tables lists entry column = map (value_in_row tables entry column) (list_at lists entry)

-- for each entry the number of its listed rows, and for each column its degree sequence over these rows, compressed at an accuracy
abbrev pub entry_bounds_over : Tables → List (List ℕ) → ℕ → EntryBounds
entry_bounds_over tables lists accuracy = record {
  rows = listed_row_count lists;
  list = λ entry column. compressed_degrees accuracy (as_first_rows (listed_values tables lists entry column));
}

-- the bound of each set of entries. A set's index is the number whose bits are the set's entries
abbrev pub set_bounds_over : Query → Tables → List (List ℕ) → ℕ → List ℕ
set_bounds_over query tables lists accuracy =
    bounds_of_sets (entry_bounds_over tables lists accuracy) (equalities_of query) (length query.from)
