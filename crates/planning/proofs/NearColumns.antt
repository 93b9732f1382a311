-- If no conjunct names just one entry, bounds are near the bounds from the degree lists of whole columns.
use Rattle.std.proofs.Common.{◌≡◌, ℕ, ◌+◌, ◌*◌, ◌<◌, ◌≤◌, ◌^◌, List, [], length, get_or, refl, ap, sym, ◌∙◌, subst}
use Rattle.std.proofs.Math.Path.{fun_ext}
use Rattle.std.proofs.lemmas.List.{length-map}
use Rattle.std.proofs.lemmas.List.FromFn.{fill_by_all, length-map-range_with_len}
use Rattle.degree_sequences.specs.Compression.{compressed}
use Rattle.degree_sequences.specs.Degrees.{degree_list}
use Rattle.entry_sets.specs.Sets.{entries_of_set}
use Rattle.query_types.specs.declared.types.Query.{Query}
use Rattle.join_graph.specs.Conjuncts.{equalities_of}
use Rattle.tree_bounds.specs.SetBounds.{bound_of_set}
use Rattle.tree_bounds.specs.TreeBounds.{EntryBounds}
use Rattle.sql_meaning.specs.Tables.{Tables, row_counts}
use Rattle.filtered_lists.specs.Filters.{own_conjuncts}
use Rattle.filtered_lists.specs.Standing.{value_in_row}
use Rattle.level_bounds.specs.WholeTables.{keys_of, uncompressed}
use Rattle.query_bounds.specs.Statistics.{AreOfWholeTables}
use Rattle.query_bounds.proofs.Near.{near_whole}
use Rattle.table_stats.specs.Columns.{column_values, first_row, as_first_rows}
use Rattle.table_stats.specs.Statistics.{column_lists}
use Rattle.gathered_stats.specs.Statistics.{statistics_of}
use Rattle.planning.specs.Bounds.{set_bounds_of, whole_columns}
use Rattle.planning.proofs.Facts.{each_column}

module _ (tables : Tables) where
  -- the key of a row is its value's number in the column: the first row that has the value
  abbrev row_number : ℕ → ℕ → ℕ → ℕ
  row_number entry column row = get_or (as_first_rows (column_values tables entry column)) row 0

  length-as_first_rows : (entry column : ℕ) → length (as_first_rows (column_values tables entry column)) ≡ row_counts tables entry
  length-as_first_rows entry column =
      length-map (column_values tables entry column) (first_row (column_values tables entry column))
      ∙ length-map-range_with_len (value_in_row tables entry column) 0 (row_counts tables entry)

  keys_are_numbers : (entry column : ℕ) → as_first_rows (column_values tables entry column) ≡ keys_of tables row_number entry column
  keys_are_numbers entry column =
      fill_by_all (row_number entry column) (as_first_rows (column_values tables entry column)) (row_counts tables entry) 0
      (length-as_first_rows entry column) (λ k k_in_range. refl)

  whole_columns_are : uncompressed tables row_number ≡ whole_columns tables
  whole_columns_are =
      ap made (fun_ext (λ (entry : ℕ). fun_ext (λ (column : ℕ). ap (λ (s : List ℕ). degree_list s) (sym (keys_are_numbers entry column)))))
    where
      made : (ℕ → ℕ → List ℕ) → EntryBounds
      made list = record { rows = row_counts tables; list = list }

  are_whole : (query : Query) (accuracy : ℕ) → ((entry : ℕ) → own_conjuncts entry query.conjuncts ≡ [])
      → AreOfWholeTables query (statistics_of tables accuracy) tables row_number accuracy
  are_whole query accuracy none = record {
    unfiltered = none;
    counts = λ entry entry_in_range. refl;
    lists =
        each_column (λ entry column. (column_lists tables accuracy entry column).whole
        ≡ compressed accuracy (degree_list (keys_of tables row_number entry column))) (equalities_of query)
        (λ entry column. ap (λ (s : List ℕ). compressed accuracy (degree_list s)) (keys_are_numbers entry column));
  }

  pub near_columns : (query : Query) (accuracy subset : ℕ) → ((entry : ℕ) → own_conjuncts entry query.conjuncts ≡ [])
      → subset < 2 ^ length query.from
      → accuracy ^ length (entries_of_set subset) * get_or (set_bounds_of query tables accuracy) subset 0
      ≤ (accuracy + 1) ^ length (entries_of_set subset) * bound_of_set (whole_columns tables) (equalities_of query) subset
  near_columns query accuracy subset none fits =
      subst (λ (b : EntryBounds). accuracy ^ length (entries_of_set subset) * get_or (set_bounds_of query tables accuracy) subset 0
      ≤ (accuracy + 1) ^ length (entries_of_set subset) * bound_of_set b (equalities_of query) subset) whole_columns_are
      (near_whole query (statistics_of tables accuracy) tables row_number accuracy (are_whole query accuracy none) subset fits)
