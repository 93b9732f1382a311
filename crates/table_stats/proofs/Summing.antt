-- Each list of the statistics is in descending order and sums to the number of rows that it counts.
use Rattle.std.proofs.Common.{◌≡◌, ℕ, ◌≤◌, Bool, cond, eqb, List, map, length, sum, Some, ap, sym, ◌∙◌, subst, arith}
use Rattle.std.specs.List.{count_by, list_any}
use Rattle.std.proofs.lemmas.Bool.{cond_both}
use Rattle.std.proofs.lemmas.List.{length-map}
use Rattle.csv_tables.specs.Values.{Value}
use Rattle.cond_stats.specs.Frequency.{frequent, remaining}
use Rattle.cond_stats.specs.Leaves.{in_node, leaf_of, node_size}
use Rattle.cond_stats.specs.Lists.{compressed_degrees, greatest, is_frequent, keys_with, list_of_node, list_of_value, rest}
use Rattle.cond_stats.specs.Rows.{filter_values, keys_where}
use Rattle.cond_stats.proofs.Dominating.{rest-is, uncompressed_rest}
use Rattle.cond_stats.proofs.Sums.{IsDescending-uncompressed_rest, sum-compressed_degrees, sum-list_of_node, sum-list_of_value, sum-rest}
use Rattle.degree_sequences.specs.Degrees.{degree, degree_list}
use Rattle.degree_sequences.specs.Descending.{IsDescending}
use Rattle.degree_sequences.proofs.CompressedLists.{IsDescending-compressed}
use Rattle.degree_sequences.proofs.DegreeLists.{IsDescending-degree_list, length_at_most_sum}
use Rattle.degree_sequences.specs.Domination.{DominatesKeys}
use Rattle.filtered_lists.specs.Lists.{ColumnLists}
use Rattle.filtered_lists.specs.Ranges.{Range}
use Rattle.filtered_lists.specs.Standing.{CountsStandFor, ListsDescend, SumTo, has_value, is_in_range, rows_where}
use Rattle.sql_meaning.specs.Tables.{Tables, row_counts}
use Rattle.table_stats.specs.Columns.{first_row, as_first_rows, paired, row_le}
use Rattle.table_stats.specs.Statistics.{column_lists, count_with, entry_counts, lists_over}
use Rattle.table_stats.proofs.ColumnRows.{filter_numbers, values_length, listed_number, values}
use Rattle.table_stats.proofs.Dominating.{equal_for_keys, first_leaf, last_leaf, range_for_keys}

-- ---- lists are in descending order

IsDescending-compressed_degrees : (accuracy : ℕ) (keys : List ℕ) → IsDescending (compressed_degrees accuracy keys)
IsDescending-compressed_degrees accuracy keys = IsDescending-compressed accuracy (degree_list keys) (IsDescending-degree_list keys)

IsDescending-rest : (accuracy : ℕ) (pairs : List (ℕ × ℕ)) → IsDescending (rest accuracy pairs)
IsDescending-rest accuracy pairs =
    subst IsDescending (sym (rest-is accuracy pairs)) (IsDescending-compressed accuracy (uncompressed_rest pairs) (IsDescending-uncompressed_rest pairs))

IsDescending-list_of_value : (accuracy : ℕ) (pairs : List (ℕ × ℕ)) (value : ℕ) → IsDescending (list_of_value accuracy pairs (Some value))
unfolding list_of_value
IsDescending-list_of_value accuracy pairs value =
    cond_both (is_frequent pairs value) (compressed_degrees accuracy (keys_with value pairs)) (rest accuracy pairs) IsDescending
    (λ e. IsDescending-compressed_degrees accuracy (keys_with value pairs)) (λ e. IsDescending-rest accuracy pairs)

IsDescending-list_of_node : (at_most : ℕ → ℕ → Bool) (accuracy : ℕ) (pairs : List (ℕ × ℕ)) (size leaf : ℕ) → IsDescending (list_of_node at_most accuracy pairs size leaf)
unfolding list_of_node
IsDescending-list_of_node at_most accuracy pairs size leaf =
    IsDescending-compressed_degrees accuracy (keys_where (λ value. in_node size leaf (leaf_of at_most (filter_values pairs) value)) pairs)

module _ (tables : Tables) (accuracy entry : ℕ) (joined_values : List Value) where
  abbrev pairs : ℕ → List (ℕ × ℕ)
  pairs column = paired (values tables entry column) joined_values

  pub listed_descend : ListsDescend (lists_over accuracy (values tables entry) joined_values)
  listed_descend = record {
    whole = IsDescending-compressed_degrees accuracy (as_first_rows joined_values);
    equal = λ column value. IsDescending-list_of_value accuracy (pairs column) (first_row (values tables entry column) value);
    range = λ range. IsDescending-list_of_node (row_le (values tables entry range.column)) accuracy (pairs range.column)
        (node_size (first_leaf (values tables entry range.column) range.low) (last_leaf (values tables entry range.column) range.high))
        (first_leaf (values tables entry range.column) range.low);
  }

  -- ---- each list sums to a number of rows

  abbrev remaining_count : List ℕ → ℕ
  remaining_count numbers = greatest (map (degree numbers) (remaining numbers))

  abbrev count_of : List ℕ → ℕ → ℕ
  count_of numbers number = cond (list_any (λ other. eqb other number) (frequent numbers)) (degree numbers number) (remaining_count numbers)

  module _ (joined_length : length joined_values ≡ row_counts tables entry) where
    equal_sum : (column : ℕ) (value : Value) → sum ((lists_over accuracy (values tables entry) joined_values).equal column value) ≡ count_with (values tables entry column) value
    equal_sum column value =
        let number : ℕ = first_row (values tables entry column) value in
        sum-list_of_value accuracy (pairs column) number
        ∙ ap (λ (n : ℕ). cond (is_frequent (pairs column) number) (degree (filter_values (pairs column)) number) n) (sum-rest accuracy (pairs column))
        ∙ ap (λ (numbers : List ℕ). count_of numbers number) (filter_numbers tables entry joined_values joined_length column)

    range_sum : (range : Range) → sum ((lists_over accuracy (values tables entry) joined_values).range range) ≡ (entry_counts tables entry).range range
    range_sum range =
        let at_most : ℕ → ℕ → Bool = row_le (values tables entry range.column) in
        let first : ℕ = first_leaf (values tables entry range.column) range.low in
        let size : ℕ = node_size first (last_leaf (values tables entry range.column) range.high) in
        sum-list_of_node at_most accuracy (pairs range.column) size first
        ∙ ap (λ (numbers : List ℕ). count_by (λ number. in_node size first (leaf_of at_most numbers number)) numbers) (filter_numbers tables entry joined_values joined_length range.column)

    pub listed_sum : SumTo (lists_over accuracy (values tables entry) joined_values) (entry_counts tables entry)
    listed_sum = record {
      whole = sum-compressed_degrees accuracy (as_first_rows joined_values)
          ∙ length-map joined_values (first_row joined_values) ∙ joined_length;
      equal = equal_sum;
      range = range_sum;
    }

-- ---- the lists of an entry's columns

pub lists_descend : (tables : Tables) (accuracy entry joined_column : ℕ) → ListsDescend (column_lists tables accuracy entry joined_column)
lists_descend tables accuracy entry joined_column = listed_descend tables accuracy entry (values tables entry joined_column)

pub lists_sum : (tables : Tables) (accuracy entry joined_column : ℕ) → SumTo (column_lists tables accuracy entry joined_column) (entry_counts tables entry)
lists_sum tables accuracy entry joined_column = listed_sum tables accuracy entry (values tables entry joined_column) (values_length tables entry joined_column)

-- ---- the counts are at least the numbers of rows that pass

module _ (tables : Tables) (entry : ℕ) where
  -- the proof has to count rows by some joined column; it takes column 0, and any other would do
  abbrev first_column : List Value
  first_column = values tables entry 0

  abbrev first_lists : ColumnLists
  first_lists = lists_over 1 (values tables entry) first_column

  rows_at_most_sum : (s : List ℕ) (test : ℕ → Bool) → DominatesKeys s (map (listed_number first_column) (rows_where tables entry test)) → length (rows_where tables entry test) ≤ sum s
  rows_at_most_sum s test dominates =
      omega (
        arith,
        length_at_most_sum s (map (listed_number first_column) (rows_where tables entry test)) dominates,
        length-map (rows_where tables entry test) (listed_number first_column),
      )

  pub counts_stand : CountsStandFor (entry_counts tables entry) tables entry
  counts_stand = record {
    whole = omega arith;
    equal = λ column value.
        omega (
          arith,
          rows_at_most_sum (first_lists.equal column value) (has_value tables entry column value)
              (equal_for_keys tables 1 entry first_column (values_length tables entry 0) (listed_number first_column) (λ row other low also. ((λ same. same), (λ same. same))) column value),
          equal_sum tables 1 entry first_column (values_length tables entry 0) column value,
        );
    range = λ range.
        omega (
          arith,
          rows_at_most_sum (first_lists.range range) (is_in_range tables entry range)
              (range_for_keys tables 1 entry first_column (values_length tables entry 0) (listed_number first_column) (λ row other low also. ((λ same. same), (λ same. same))) range),
          range_sum tables 1 entry first_column (values_length tables entry 0) range,
        );
  }
