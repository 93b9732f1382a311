-- A grown pair is the same whether the new rows are given by their cells or by their values.
use Rattle.std.proofs.Common.{◌≡◌, ℕ, ◌*◌, ◌/◌, ◌<◌, Bool, eqb, not, List, length, map, get_or, pos, refl, ap, sym, ◌∙◌, subst, arith}
use Rattle.std.specs.List.{All, AllByRecursion, Contains, filter, flat_map, range_with_len, zip}
use Rattle.std.proofs.Math.Path.{fun_ext}
use Rattle.std.proofs.lemmas.List.{get_or-map, length-map}
use Rattle.schema_types.specs.declared.types.Kind.{Kind}
use Rattle.csv_tables.specs.Cells.{IsCell, value_of_cell}
use Rattle.csv_tables.specs.Values.{Value, Int}
use Rattle.cond_stats.specs.Leaves.{in_node}
use Rattle.cond_stats.specs.Lists.{compressed_degrees, greatest, keys_with, list_where, maxima, whole}
use Rattle.cond_stats.specs.Rows.{filter_values, joined_keys, keys_where}
use Rattle.column_stats.specs.Nodes.{node_sizes}
use Rattle.degree_sequences.specs.ByRank.{rank_sum}
use Rattle.degree_sequences.specs.Compression.{compressed}
use Rattle.degree_sequences.specs.Degrees.{degree, degree_list, different}
use Rattle.degree_sequences.specs.RunningSums.{capped_at}
use Rattle.degree_sequences.proofs.Counting.{All-filter}
use Rattle.level_bounds.specs.Keys.{HaveDifferentCharacters}
use Rattle.level_bounds.proofs.CellKeys.{equal_cells}
use Rattle.relabelling_laws.specs.Relabelling.{IsOneToOne}
use Rattle.relabelling_laws.proofs.Columns.{column_contains_each, equality_is_kept}
use Rattle.relabelling_laws.proofs.Mapped.{All-different, degree-mapped, different-mapped, filter-mapped, map-mapped}
use Rattle.relabelling_laws.proofs.Rows.{zip_of_columns, whole_list_unchanged}
use Rattle.relabelling_laws.proofs.RowsMapped.{All-zip, RowSatisfies, degrees-mapped, zip-relabelled}
use Rattle.stats_file.specs.declared.types.Datum.{Datum}
use Rattle.stats_file.specs.declared.types.PairStats.{PairStats}
use Rattle.table_stats.specs.Columns.{as_first_rows, paired, value_of_row}
use Rattle.table_stats.proofs.CellColumns.{cell_values, number_of, numbers_of_cells, one_to_one}
use Rattle.table_stats.proofs.EqualValues.{equal_itself, is_equal}
use Rattle.table_stats.proofs.FirstRows.{first_has, first_row_exists}
use Rattle.stats_file_of_query.specs.Standing.{is_value, leaf_of_value}
use Rattle.stats_file_of_query.proofs.SameValues.{same_parts}
use Rattle.appended_stats.specs.Grown.{grown_pair, is_frequent, list_for_any_of, lists_of_nodes, other_values, rank_sums, with_new_rows}

abbrev with_list : Datum × List ℕ → List ℕ → Datum × List ℕ
with_list found s = (found.0, s)

module _ (texts : List (List ℕ)) (differ : HaveDifferentCharacters texts) (kind other : Kind) (column joined : List ℕ)
    (are_column : All (IsCell texts kind) column) (are_joined : All (IsCell texts other) joined) (same_length : length column ≡ length joined) (accuracy : ℕ) where
  abbrev filters : List Value
  filters = cell_values texts differ kind column are_column

  abbrev keys : List Value
  keys = cell_values texts differ other joined are_joined

  abbrev row_of : ℕ → ℕ
  row_of = number_of texts differ kind column are_column

  abbrev key_of : ℕ → ℕ
  key_of = number_of texts differ other joined are_joined

  apart : IsOneToOne row_of column
  apart = one_to_one texts differ kind column are_column

  keys_apart : IsOneToOne key_of joined
  keys_apart = one_to_one texts differ other joined are_joined

  abbrev cells : List (ℕ × ℕ)
  cells = zip column joined

  abbrev rows : List (ℕ × ℕ)
  rows = zip (map row_of column) (map key_of joined)

  rows_are : paired filters keys ≡ rows
  rows_are =
      ap (λ (s : List ℕ). zip s (as_first_rows keys)) (numbers_of_cells texts differ kind column are_column)
      ∙ ap (λ (s : List ℕ). zip (map row_of column) s) (numbers_of_cells texts differ other joined are_joined)

  same_lengths : length (map row_of column) ≡ length (map key_of joined)
  same_lengths = omega (arith, length-map column row_of, length-map joined key_of, same_length)

  first_of_rows : filter_values rows ≡ map row_of column
  first_of_rows = (zip_of_columns (map row_of column) (map key_of joined) same_lengths).0

  second_of_rows : joined_keys rows ≡ map key_of joined
  second_of_rows = (zip_of_columns (map row_of column) (map key_of joined) same_lengths).1

  first_of_cells : filter_values cells ≡ column
  first_of_cells = (zip_of_columns column joined same_length).0

  second_of_cells : joined_keys cells ≡ joined
  second_of_cells = (zip_of_columns column joined same_length).1

  own : AllByRecursion (RowSatisfies (Contains column) (Contains joined)) cells
  own = All-zip (Contains column) (Contains joined) column joined (column_contains_each column) (column_contains_each joined)

  abbrev of_cell : ℕ → Value
  of_cell cell = value_of_cell texts kind cell

  abbrev of_row : ℕ → Value
  of_row n = value_of_row filters n

  same_value : (cell : ℕ) → Contains column cell → of_row (row_of cell) ≡ of_cell cell
  same_value cell has =
      let low : has.0 < length column = has.1 in
      let here : get_or filters has.0 (Int (pos 0)) ≡ of_cell cell = get_or-map of_cell column has.0 cell (Int (pos 0)) low ∙ ap of_cell has.2 in
      let below : row_of cell < length filters =
      first_row_exists filters (of_cell cell) has.0 (Int (pos 0)) (omega (arith, low, length-map column of_cell))
      (ap (λ (v : Value). is_equal v (of_cell cell)) here ∙ equal_itself (of_cell cell)) in
      let within : row_of cell < length column = omega (arith, below, length-map column of_cell) in
      let first : ℕ = get_or column (row_of cell) 0 in
      let its : of_row (row_of cell) ≡ of_cell first = get_or-map of_cell column (row_of cell) 0 (Int (pos 0)) within in
      let is_cell : IsCell texts kind cell = subst (IsCell texts kind) has.2 (are_column has.0 cell has.1) in
      let same : first ≡ cell =
      equal_cells texts differ kind kind first cell (are_column (row_of cell) 0 within) is_cell
      (ap (λ (v : Value). is_equal v (of_cell cell)) (sym its) ∙ first_has filters (of_cell cell) below) in
      its ∙ ap of_cell same

  -- ---- equal lists of the rows that pass a test of their values

  passing_same : (p q : ℕ → Bool) → ((cell : ℕ) → Contains column cell → q (row_of cell) ≡ p cell) → degree_list (keys_where q rows) ≡ degree_list (keys_where p cells)
  passing_same p q alike =
      ap (λ (s : List (ℕ × ℕ)). degree_list (keys_where q s)) (zip-relabelled row_of key_of column joined)
      ∙ degrees-mapped (Contains column) (Contains joined) row_of key_of (equality_is_kept key_of joined keys_apart) cells own p q alike

  where_same : (test : Value → Bool) → list_where accuracy (λ n. test (of_row n)) rows ≡ list_where accuracy (λ cell. test (of_cell cell)) cells
  where_same test = ap (compressed accuracy) (passing_same (λ cell. test (of_cell cell)) (λ n. test (of_row n)) (λ cell has. ap test (same_value cell has)))

  whole_same : whole accuracy rows ≡ whole accuracy cells
  whole_same = ap (compressed_degrees accuracy) second_of_rows ∙ whole_list_unchanged accuracy key_of joined keys_apart ∙ ap (compressed_degrees accuracy) (sym second_of_cells)

  frequent_same : (frequent : List (Datum × List ℕ)) → map (with_new_rows of_row accuracy rows) frequent ≡ map (with_new_rows of_cell accuracy cells) frequent
  frequent_same frequent =
      ap (λ (f : Datum × List ℕ → Datum × List ℕ). map f frequent)
      (fun_ext (λ (found : Datum × List ℕ). ap (λ (s : List ℕ). with_list found (rank_sum found.1 s)) (where_same (λ value. is_value value found.0))))

  nodes_same : (leaf : Value → ℕ) → lists_of_nodes (λ n. leaf (of_row n)) accuracy rows ≡ lists_of_nodes (λ cell. leaf (of_cell cell)) accuracy cells
  nodes_same leaf =
      ap (λ (lists : ℕ → List (List ℕ)). flat_map lists node_sizes)
      (fun_ext (λ (size : ℕ). ap (λ (node : ℕ → List ℕ). map node (range_with_len 0 (32 / size)))
      (fun_ext (λ (i : ℕ). where_same (λ value. in_node size (size * i) (leaf value))))))

  -- ---- equal lists of the values that aren't frequent

  module _ (frequent : List (Datum × List ℕ)) where
    abbrev is_other : Value → Bool
    is_other value = not (is_frequent frequent value)

    abbrev cells_of_others : List ℕ
    cells_of_others = filter (λ cell. is_other (of_cell cell)) column

    inside : AllByRecursion (Contains column) cells_of_others
    inside = All-filter (Contains column) (λ cell. is_other (of_cell cell)) column (column_contains_each column)

    others_same : other_values of_row rows frequent ≡ map row_of (different cells_of_others)
    others_same =
        ap (λ (s : List ℕ). different (filter (λ n. is_other (of_row n)) s)) first_of_rows
        ∙ ap different (filter-mapped (Contains column) row_of (λ cell. is_other (of_cell cell)) (λ n. is_other (of_row n)) (λ cell has. ap is_other (same_value cell has)) column (column_contains_each column))
        ∙ different-mapped (Contains column) row_of (equality_is_kept row_of column apart) cells_of_others inside

    list_same : (values : List ℕ) → AllByRecursion (Contains column) values → list_for_any_of accuracy rows (map row_of values) ≡ list_for_any_of accuracy cells values
    list_same values all =
        ap (λ (s : List (List ℕ)). compressed accuracy (capped_at (maxima s) (greatest (map (degree (filter_values rows)) (map row_of values)))))
        (map-mapped (Contains column) row_of (λ v. degree_list (keys_with v cells)) (λ v. degree_list (keys_with v rows))
        (λ v has. passing_same (λ cell. eqb cell v) (λ n. eqb n (row_of v)) (λ cell there. equality_is_kept row_of column apart cell v there has)) values all)
        ∙ ap (λ (s : List ℕ). compressed accuracy (capped_at (maxima (map (λ v. degree_list (keys_with v cells)) values)) (greatest s)))
        (ap (λ (c : List ℕ). map (degree c) (map row_of values)) first_of_rows
        ∙ map-mapped (Contains column) row_of (degree column) (degree (map row_of column)) (degree-mapped (Contains column) row_of (equality_is_kept row_of column apart) column (column_contains_each column)) values all
        ∙ ap (λ (c : List ℕ). map (degree c) values) (sym first_of_cells))

    rest_same : list_for_any_of accuracy rows (other_values of_row rows frequent) ≡ list_for_any_of accuracy cells (other_values of_cell cells frequent)
    rest_same =
        ap (list_for_any_of accuracy rows) others_same
        ∙ list_same (different cells_of_others) (All-different (Contains column) cells_of_others inside)
        ∙ ap (λ (s : List ℕ). list_for_any_of accuracy cells (different (filter (λ cell. is_other (of_cell cell)) s))) (sym first_of_cells)

  -- ---- equal grown pairs

  grown_same : (pair : PairStats) → grown_pair of_row accuracy rows pair ≡ grown_pair of_cell accuracy cells pair
  grown_same pair =
      same_parts pair.filter pair.joined (rank_sum pair.whole (whole accuracy rows)) (rank_sum pair.whole (whole accuracy cells))
      (rank_sum pair.rest (list_for_any_of accuracy rows (other_values of_row rows pair.frequent))) (rank_sum pair.rest (list_for_any_of accuracy cells (other_values of_cell cells pair.frequent)))
      (map (with_new_rows of_row accuracy rows) pair.frequent) (map (with_new_rows of_cell accuracy cells) pair.frequent) pair.cuts pair.cuts
      (rank_sums pair.nodes (lists_of_nodes (λ n. leaf_of_value pair (of_row n)) accuracy rows))
      (rank_sums pair.nodes (lists_of_nodes (λ cell. leaf_of_value pair (of_cell cell)) accuracy cells))
      (ap (rank_sum pair.whole) whole_same) (frequent_same pair.frequent) (ap (rank_sum pair.rest) (rest_same pair.frequent)) refl
      (ap (rank_sums pair.nodes) (nodes_same (leaf_of_value pair)))

  pub grown_is : (pair : PairStats) → grown_pair of_cell accuracy cells pair ≡ grown_pair (value_of_row filters) accuracy (paired filters keys) pair
  grown_is pair = sym (ap (λ (s : List (ℕ × ℕ)). grown_pair of_row accuracy s pair) rows_are ∙ grown_same pair)
