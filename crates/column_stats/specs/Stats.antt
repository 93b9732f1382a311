-- Statistics of a filter column for a joined column: their parts, and the lists and leaves that they give.
use Rattle.std.specs.Prelude.{ℕ, nat_eq, ◌≡◌, ◌<◌, ◌==◌, ◌⊎◌, List, [], map, length, find, All, Option, None, Some, unwrap_or, slice_index_or}
use Rattle.std.specs.List.{IsDistinct}
use Rattle.std.specs.Option.{option_map_or}
use Rattle.schema_types.specs.declared.types.Kind.{Kind}
use Rattle.csv_tables.specs.Cells.{value_of_cell}
use Rattle.csv_tables.specs.Values.{Value}
use Rattle.cond_stats.specs.Columns.{cell_le, leaf_among}
use Rattle.cond_stats.specs.Frequency.{frequent}
use Rattle.cond_stats.specs.Leaves.{cuts, node_size}
use Rattle.cond_stats.specs.Lists.{compressed_degrees, keys_with, rest, whole}
use Rattle.cond_stats.specs.Rows.{filter_values}
use Rattle.column_stats.specs.declared.stats.ColumnStats.{ColumnStats}
use Rattle.column_stats.specs.declared.stats.FrequentList.{FrequentList}
use Rattle.column_stats.specs.Nodes.{node_lists, node_place}

-- a frequent value with the list of its rows
abbrev pub frequent_list : ℕ → List (ℕ × ℕ) → ℕ → FrequentList
frequent_list accuracy rows value = record { cell = value; list = compressed_degrees accuracy (keys_with value rows) }

-- each frequent value with its list, the most frequent first
abbrev pub frequent_lists : ℕ → List (ℕ × ℕ) → List FrequentList
frequent_lists accuracy rows = map (frequent_list accuracy rows) (frequent (filter_values rows))

-- the statistics of rows, each a filter value and a joined key
abbrev pub stats_of : List (List ℕ) → Kind → ℕ → List (ℕ × ℕ) → ColumnStats
stats_of texts kind accuracy rows = record {
  kind = kind;
  rows = length rows;
  whole = whole accuracy rows;
  frequent = frequent_lists accuracy rows;
  rest = rest accuracy rows;
  cuts = cuts (cell_le texts kind) (filter_values rows);
  nodes = node_lists (cell_le texts kind) accuracy rows;
}

-- the list of a value, given by its cell: the value's own list if it is frequent, otherwise the rest list. None is a value without a cell
abbrev pub list_for_value : ColumnStats → Option ℕ → List ℕ
list_for_value stats None = stats.rest
list_for_value stats (Some value) = option_map_or (λ found. found.list) (find (λ found. found.cell == value) stats.frequent) stats.rest

-- the list of the node of this size that holds this leaf, or the empty list where there are no nodes
abbrev pub list_for_node : ColumnStats → ℕ → ℕ → List ℕ
list_for_node stats size leaf = slice_index_or stats.nodes (node_place size leaf) []

-- the list of a range: the list of the least node that holds the leaves of both ends. A missing low end is leaf 0, a missing high end leaf 31
abbrev pub list_for_range : ColumnStats → Option ℕ → Option ℕ → List ℕ
list_for_range stats low high =
    let first = unwrap_or low 0 in
    list_for_node stats (node_size first (unwrap_or high 31)) first

-- the leaf of a value, by the cuts. A cut of a text column is the number of a text in `texts`
abbrev pub leaf_by_cuts : List (List ℕ) → ColumnStats → Value → ℕ
leaf_by_cuts texts stats value = leaf_among (value_of_cell texts stats.kind) stats.cuts value

-- statistics of no rows: each list is empty, and there are no cuts and no nodes
pub record AreOfNoRows (stats : ColumnStats) : Type 0 where
  pub no_rows : stats.rows ≡ 0
  pub whole_is : stats.whole ≡ []
  pub rest_is : stats.rest ≡ []
  pub frequent_are : All (λ found. found.list ≡ []) stats.frequent
  pub cuts_are : stats.cuts ≡ []
  pub nodes_are : stats.nodes ≡ []

-- statistics of one or more rows: there are 32 cuts and 63 nodes
pub record AreOfRows (stats : ColumnStats) : Type 0 where
  pub some_rows : 0 < stats.rows
  pub cut_count : length stats.cuts ≡ 32
  pub node_count : length stats.nodes ≡ 63

-- The frequent values are different. The other parts satisfy `AreOfNoRows` or `AreOfRows`
pub record IsValid (stats : ColumnStats) : Type 0 where
  pub different : IsDistinct nat_eq (map (λ found. found.cell) stats.frequent)
  pub parts : AreOfNoRows stats ⊎ AreOfRows stats
