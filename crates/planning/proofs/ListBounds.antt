-- The degree sequences of columns over listed rows are in descending order, and sum to the number of rows. They dominate the listed rows' keys,
-- whenever rows have equal keys exactly if their values are equal.
use Rattle.std.proofs.Common.{ℕ, ◌<◌, ◌≤◌, List, length, map, refl, ap, ◌∙◌, subst, arith}
use Rattle.std.specs.List.{Contains, range_with_len}
use Rattle.std.proofs.lemmas.List.{get_or-map, length-map}
use Rattle.std.proofs.lemmas.List.FromFn.{length-range_with_len}
use Rattle.csv_tables.specs.Values.{Value}
use Rattle.degree_sequences.specs.Degrees.{degree_list}
use Rattle.degree_sequences.specs.Domination.{DominatesKeys}
use Rattle.degree_sequences.proofs.CompressedLists.{IsDescending-compressed, compressed_dominates, sum-compressed}
use Rattle.degree_sequences.proofs.DegreeLists.{IsDescending-degree_list, sum-degree_list}
use Rattle.query_types.specs.declared.types.Query.{Query}
use Rattle.join_graph.specs.Conjuncts.{equalities_of}
use Rattle.tree_bounds.specs.TreeBounds.{EntryBounds, HasList}
use Rattle.sql_meaning.specs.Tables.{Tables, row_counts}
use Rattle.filtered_lists.specs.Standing.{value_in_row}
use Rattle.level_bounds.specs.Keys.{AreKeys, Keys}
use Rattle.level_bounds.proofs.Lists.{map_of_map}
use Rattle.relabelling_laws.specs.Relabelling.{AreEqualAlike}
use Rattle.relabelling_laws.proofs.Dominated.{rows_dominated}
use Rattle.table_stats.specs.Columns.{first_row, as_first_rows}
use Rattle.table_stats.specs.Keys.{SeparatesValues}
use Rattle.table_stats.proofs.EqualValues.{equal_itself, is_equal}
use Rattle.table_stats.proofs.FirstRows.{equal_firsts, first_row_exists, same_first}
use Rattle.join_steps.specs.Lists.{list_at, list_sizes, listed_row_count, AreOfScans}
use Rattle.join_steps.proofs.WholeScans.{list_sizes_at, list_sizes_length}
use Rattle.reduced_scans.proofs.ByRounds.{filter_shrinks}
use Rattle.reduced_scans.proofs.FamilyRows.{family_list, listed_row_in_range, stays}
use Rattle.planning.specs.ListedBounds.{entry_bounds_over, listed_values}
use Rattle.planning.specs.Standing.{BoundLists, ColumnStands, EntriesStand}
use Rattle.planning.proofs.Facts.{each_column}

module _ (tables : Tables) (lists : List (List ℕ)) (accuracy : ℕ) where
  abbrev bounds : EntryBounds
  bounds = entry_bounds_over tables lists accuracy

  has_list : (entry column : ℕ) → HasList bounds entry column
  has_list entry column =
      let values : List Value = listed_values tables lists entry column in
      record {
        descends = IsDescending-compressed accuracy (degree_list (as_first_rows values)) (IsDescending-degree_list (as_first_rows values));
        total =
            sum-compressed accuracy (degree_list (as_first_rows values)) (IsDescending-degree_list (as_first_rows values)) ∙ sum-degree_list (as_first_rows values)
            ∙ length-map values (first_row values) ∙ length-map (list_at lists entry) (value_in_row tables entry column);
      }

  module _ (query : Query) (are : AreOfScans query tables lists) (key : Keys) (tells : (entry column : ℕ) → SeparatesValues tables entry column (key entry column)) where
    module _ (entry column : ℕ) where
      abbrev rows : List ℕ
      rows = list_at lists entry

      abbrev value_at : ℕ → Value
      value_at row = value_in_row tables entry column row

      abbrev values : List Value
      values = listed_values tables lists entry column

      abbrev number_at : ℕ → ℕ
      number_at row = first_row values (value_at row)

      number_there : (row : ℕ) → Contains rows row → number_at row < length values
      number_there row row_listed =
          first_row_exists values (value_at row) row_listed.0 (value_at row) (omega (arith, row_listed.1, length-map rows value_at))
          (ap (λ (v : Value). is_equal v (value_at row)) (get_or-map value_at rows row_listed.0 row (value_at row) row_listed.1 ∙ ap value_at row_listed.2) ∙ equal_itself (value_at row))

      alike : AreEqualAlike number_at (key entry column) rows
      alike row other listed also =
          let told = tells entry column row other (listed_row_in_range query tables lists are entry row listed) (listed_row_in_range query tables lists are entry other also) in (
            (λ same. told.1 (equal_firsts values (value_at row) (value_at other) (number_there row listed) same)),
            (λ same. same_first values (value_at row) (value_at other) (told.0 same)),
          )

      dominates : DominatesKeys (bounds.list entry column) (map (key entry column) rows)
      dominates =
          (rows_dominated (bounds.list entry column) number_at (key entry column) rows alike).0
          (subst (DominatesKeys (bounds.list entry column)) (map_of_map (first_row values) value_at number_at (λ row. refl) rows) (compressed_dominates accuracy (as_first_rows values)))

    pub lists_stand : AreKeys tables key (equalities_of query) → EntriesStand query tables lists key (entry_bounds_over tables lists accuracy)
    lists_stand keys = record {
      keys = keys;
      rows = λ entry in_range. omega arith;
      columns = each_column (λ entry column. entry < length query.from → ColumnStands lists key bounds entry column) (equalities_of query)
          (λ entry column in_range. record { has = has_list entry column; dominates = dominates entry column });
    }

listed_rows_within_table : (query : Query) (tables : Tables) (lists : List (List ℕ)) → AreOfScans query tables lists → (entry : ℕ) → listed_row_count lists entry ≤ row_counts tables entry
listed_rows_within_table query tables lists are entry =
    omega (
      arith,
      ap (λ (s : List ℕ). length s) (family_list query tables lists are entry),
      filter_shrinks (stays query tables lists are entry) (range_with_len 0 (row_counts tables entry)),
      length-range_with_len 0 (row_counts tables entry),
    )

pub sizes_bound : (query : Query) (tables : Tables) (lists : List (List ℕ)) → AreOfScans query tables lists → BoundLists query tables lists (list_sizes query lists)
sizes_bound query tables lists are = record {
  one_each = list_sizes_length query lists;
  fit = λ entry entry_in_range. omega (arith, list_sizes_at query lists entry entry_in_range);
  within = λ entry entry_in_range. omega (arith, list_sizes_at query lists entry entry_in_range, listed_rows_within_table query tables lists are entry);
}
