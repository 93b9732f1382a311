-- The lists of a pair in the file are the lists that the statistics of its table have.
use Rattle.std.proofs.Common.{◌≡◌, ℕ, ◌<◌, Bool, List, [], get_or, Option, None, Some, option_map, refl, ap, ◌∙◌, arith}
use Rattle.std.specs.Prelude.{unwrap_or}
use Rattle.std.specs.List.{range_with_len}
use Rattle.std.proofs.lemmas.List.{get_or-map, length-map}
use Rattle.csv_tables.specs.Values.{Value}
use Rattle.cond_stats.specs.Columns.{value_le}
use Rattle.cond_stats.specs.Leaves.{cuts, last_place, node_size}
use Rattle.cond_stats.specs.Lists.{compressed_degrees}
use Rattle.cond_stats.specs.Rows.{filter_values}
use Rattle.cond_stats.proofs.Ranges.{leaf-below}
use Rattle.column_stats.proofs.NodeLists.{node_is, node_size-is}
use Rattle.sql_meaning.specs.Tables.{Tables}
use Rattle.stats_file.specs.declared.types.Datum.TheVariants as datum
use Rattle.stats_file.specs.declared.types.PairStats.{PairStats}
use Rattle.table_stats.specs.Columns as columns
use Rattle.table_stats.specs.Columns.{column_values, as_first_rows, paired, row_le, value_of_row}
use Rattle.table_stats.specs.Statistics.{column_lists, end_leaf}
use Rattle.stats_file_of_query.specs.Data.{value_of}
use Rattle.stats_file_of_query.specs.Pairs.{datum_of_row, pair_in_table}
use Rattle.stats_file_of_query.specs.Standing.{leaf_cut, leaf_of_value, list_between, list_of_node, list_of_value}
use Rattle.stats_file_of_query.proofs.Stands.{value_round_trip, by_place, firsts, from_none, list_is, seconds}

module _ (tables : Tables) (accuracy entry filter_column joined : ℕ) where
  abbrev filters : List Value
  filters = column_values tables entry filter_column

  abbrev pairs : List (ℕ × ℕ)
  pairs = paired filters (column_values tables entry joined)

  abbrev pair : PairStats
  pair = pair_in_table tables accuracy entry filter_column joined

  pub whole_same : pair.whole ≡ (column_lists tables accuracy entry joined).whole
  whole_same = ap (compressed_degrees accuracy) (seconds tables accuracy entry filter_column joined)

  pub value_same : (value : Value) → list_of_value pair value ≡ (column_lists tables accuracy entry joined).equal filter_column value
  value_same value = list_is tables accuracy entry filter_column joined value

  leaf_same : (value : Value) → leaf_of_value pair value ≡ columns.leaf_of_value filters value
  leaf_same value =
      let le : ℕ → ℕ → Bool = row_le filters in
      let those : List ℕ = cuts le (filter_values pairs) in
      let q : ℕ → Bool = λ leaf. value_le (leaf_cut pair leaf) value in
      let p : ℕ → Bool = λ cut. value_le (value_of_row filters cut) value in
      ap (λ count. last_place q (range_with_len 0 count)) (length-map those (datum_of_row filters))
      ∙ by_place q p those 0
      (λ i below. ap q (from_none i) ∙ ap (λ (v : Value). value_le v value)
      (ap value_of (get_or-map (datum_of_row filters) those i 0 (datum.Text []) below) ∙ value_round_trip (value_of_row filters (get_or those i 0))))
      ∙ ap (λ (s : List ℕ). last_place p (cuts le s)) (firsts tables accuracy entry filter_column joined)

  end_same : (end : Option Value) → option_map (leaf_of_value pair) end ≡ end_leaf filters end
  end_same None = refl
  end_same (Some value) = ap Some (leaf_same value)

  first_small : (low : Option Value) → unwrap_or (end_leaf filters low) 0 < 32
  first_small None = omega arith
  first_small (Some low) = omega (arith, leaf-below (row_le filters) (as_first_rows filters) (λ cut. value_le (value_of_row filters cut) low))

  pub range_same : (low high : Option Value) → list_between pair low high ≡ (column_lists tables accuracy entry joined).range (record { column = filter_column; low = low; high = high })
  range_same low high =
      let first : ℕ = unwrap_or (end_leaf filters low) 0 in
      let last : ℕ = unwrap_or (end_leaf filters high) 31 in
      ap (λ (o : Option ℕ). list_of_node pair (node_size (unwrap_or o 0) (unwrap_or (option_map (leaf_of_value pair) high) 31)) (unwrap_or o 0)) (end_same low)
      ∙ ap (λ (o : Option ℕ). list_of_node pair (node_size first (unwrap_or o 31)) first) (end_same high)
      ∙ node_is (row_le filters) accuracy pairs (node_size first last) first (node_size-is first last) (first_small low)
