-- A pair after new rows of its table. A pair has the statistics of one filter column and one joined column. In this file a row is a filter value and
-- a joined key. Filter values are coded by numbers, and `value_of` decodes them.
use Rattle.std.specs.Prelude.{ℕ, ◌*◌, ◌/◌, not, Bool, List, map}
use Rattle.std.specs.List.{filter, flat_map, list_any, range_with_len, zip}
use Rattle.csv_tables.specs.Values.{Value}
use Rattle.cond_stats.specs.Leaves.{in_node}
use Rattle.cond_stats.specs.Lists.{greatest, keys_with, list_where, maxima, whole}
use Rattle.cond_stats.specs.Rows.{filter_values}
use Rattle.column_stats.specs.Nodes.{node_sizes}
use Rattle.degree_sequences.specs.ByRank.{rank_sum}
use Rattle.degree_sequences.specs.Compression.{compressed}
use Rattle.degree_sequences.specs.Degrees.{degree, degree_list, different}
use Rattle.degree_sequences.specs.RunningSums.{capped_at}
use Rattle.stats_file.specs.declared.types.Datum.{Datum}
use Rattle.stats_file.specs.declared.types.PairStats.{PairStats}
use Rattle.stats_file_of_query.specs.Standing.{is_value, leaf_of_value}

-- ---- the lists of the new rows

-- the list of the new rows that have a value
abbrev pub list_with : (ℕ → Value) → ℕ → List (ℕ × ℕ) → Datum → List ℕ
list_with value_of accuracy rows value = list_where accuracy (λ n. is_value (value_of n) value) rows

-- whether a value is among a pair's frequent values
abbrev pub is_frequent : List (Datum × List ℕ) → Value → Bool
is_frequent frequent value = list_any (λ (found : Datum × List ℕ). is_value value found.0) frequent

-- the different filter values of the rows, without the frequent ones
abbrev pub other_values : (ℕ → Value) → List (ℕ × ℕ) → List (Datum × List ℕ) → List ℕ
other_values value_of rows frequent = different (filter (λ n. not (is_frequent frequent (value_of n))) (filter_values rows))

-- one list for any of these values: the rank-wise maximum of their degree lists, compressed. Before compression, the maximum's running sums are
-- capped at the number of rows of the most frequent of these values. If `values` are all values of a column that aren't frequent, this list is the
-- rest list of cond_stats
abbrev pub list_for_any_of : ℕ → List (ℕ × ℕ) → List ℕ → List ℕ
list_for_any_of accuracy rows values =
    compressed accuracy (capped_at (maxima (map (λ value. degree_list (keys_with value rows)) values)) (greatest (map (degree (filter_values rows)) values)))

-- `lists_of_size`: for each node with `size` leaves, the list of the new rows whose leaf lies in the node. `lists_of_nodes`: these lists for all
-- sizes, in the order of a pair's nodes
abbrev pub lists_of_size : (ℕ → ℕ) → ℕ → List (ℕ × ℕ) → ℕ → List (List ℕ)
lists_of_size leaf_of accuracy rows size =
    map (λ i. list_where accuracy (λ n. in_node size (size * i) (leaf_of n)) rows) (range_with_len 0 (32 / size))

abbrev pub lists_of_nodes : (ℕ → ℕ) → ℕ → List (ℕ × ℕ) → List (List ℕ)
lists_of_nodes leaf_of accuracy rows = flat_map (lists_of_size leaf_of accuracy rows) node_sizes

-- ---- old lists and the new rows' lists, added rank by rank

abbrev pub with_new_rows : (ℕ → Value) → ℕ → List (ℕ × ℕ) → Datum × List ℕ → Datum × List ℕ
with_new_rows value_of accuracy rows found = (found.0, rank_sum found.1 (list_with value_of accuracy rows found.0))

abbrev pub rank_sums : List (List ℕ) → List (List ℕ) → List (List ℕ)
rank_sums lists others = map (λ (both : List ℕ × List ℕ). rank_sum both.0 both.1) (zip lists others)

-- a pair after new rows. The cuts and the frequent values stay. A new row whose value isn't frequent counts in the rest list, and the old cuts say in
-- which leaf a value lies
abbrev pub grown_pair : (ℕ → Value) → ℕ → List (ℕ × ℕ) → PairStats → PairStats
grown_pair value_of accuracy rows pair = record {
  filter = pair.filter;
  joined = pair.joined;
  whole = rank_sum pair.whole (whole accuracy rows);
  frequent = map (with_new_rows value_of accuracy rows) pair.frequent;
  rest = rank_sum pair.rest (list_for_any_of accuracy rows (other_values value_of rows pair.frequent));
  cuts = pair.cuts;
  nodes = rank_sums pair.nodes (lists_of_nodes (λ n. leaf_of_value pair (value_of n)) accuracy rows);
}
