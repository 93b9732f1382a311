-- When a statistics file stands for tables.
use Rattle.std.specs.Prelude.{ℕ, ◌≡◌, ◌<◌, Bool, List, [], All, length, map, Option, Some, find, ◌==◌, slice_index_or, unwrap_or, option_map}
use Rattle.std.specs.List.{range_with_len, sum}
use Rattle.std.specs.Option.{option_map_or}
use Rattle.std.specs.Ordering.{is_eq}
use Rattle.csv_tables.specs.Values.{Value, value_cmp}
use Rattle.cond_stats.specs.Columns.{leaf_among}
use Rattle.cond_stats.specs.Leaves.{IsNodeSize, in_node, node_size}
use Rattle.column_stats.specs.Nodes.{node_place}
use Rattle.degree_sequences.specs.Domination.{DominatesKeys}
use Rattle.filtered_lists.specs.Standing.{has_value, rows_where, value_in_row}
use Rattle.query_types.specs.declared.types.Query.{Query}
use Rattle.sql_meaning.specs.Tables.{Tables, row_counts}
use Rattle.stats_file.specs.declared.types.Datum.{Datum}
use Rattle.stats_file.specs.declared.types.Datum.TheVariants as datum
use Rattle.stats_file.specs.declared.types.PairStats.{PairStats}
use Rattle.stats_file.specs.declared.types.StatsFile.{StatsFile}
use Rattle.stats_file.specs.declared.types.TableStats.{TableStats}
use Rattle.table_stats.specs.Keys.{SeparatesValues}
use Rattle.stats_file_of_query.specs.Needs.{table_of}
use Rattle.stats_file_of_query.specs.Data.{value_of}

-- ---- the list that a pair has for a value or a range

-- whether a value of a file is equal to `value`
abbrev pub is_value : Value → Datum → Bool
is_value value found = is_eq (value_cmp (value_of found) value)

-- the list of a value: the value's own list if it is frequent, otherwise the rest list
abbrev pub list_of_value : PairStats → Value → List ℕ
list_of_value pair value =
    option_map_or (λ (found : Datum × List ℕ). found.1) (find (λ (found : Datum × List ℕ). is_value value found.0) pair.frequent) pair.rest

-- the cut at which a leaf begins
abbrev pub leaf_cut : PairStats → ℕ → Value
leaf_cut pair leaf = value_of (slice_index_or pair.cuts leaf (datum.Text []))

-- the leaf of a value, by the cuts of a pair
abbrev pub leaf_of_value : PairStats → Value → ℕ
leaf_of_value pair value = leaf_among (leaf_cut pair) (range_with_len 0 (length pair.cuts)) value

-- the list of the node that has `size` leaves and contains `leaf`. It is empty if there are no nodes
abbrev pub list_of_node : PairStats → ℕ → ℕ → List ℕ
list_of_node pair size leaf = slice_index_or pair.nodes (node_place size leaf) []

-- the list of the values from `low` to `high`: the list of the smallest node that contains the leaves of `low` and `high`. A range without a low end
-- begins in leaf 0, and a range without a high end ends in leaf 31
abbrev pub list_between : PairStats → Option Value → Option Value → List ℕ
list_between pair low high =
    let first = unwrap_or (option_map (leaf_of_value pair) low) 0 in
    let last = unwrap_or (option_map (leaf_of_value pair) high) 31 in
    list_of_node pair (node_size first last) first

-- ---- when a pair, a section and a file stand for rows

-- whether the leaf of a row lies in the node that has `size` leaves and contains `leaf`
abbrev pub is_in_node : PairStats → Tables → ℕ → ℕ → ℕ → ℕ → Bool
is_in_node pair tables entry size leaf row = in_node size leaf (leaf_of_value pair (value_in_row tables entry pair.filter row))

-- the pair stands for the rows of an entry's table, which have these keys in the joined column. The list of all rows sums to their number and
-- dominates their keys. The list of each value, frequent or not, dominates the keys of the rows that have the value in the filter column. The list of
-- each node dominates the keys of the rows whose leaf lies in the node
pub record PairStandsFor (pair : PairStats) (tables : Tables) (entry : ℕ) (key : ℕ → ℕ) : Type 0 where
  pub rows : sum pair.whole ≡ row_counts tables entry
  pub whole : DominatesKeys pair.whole (map key (range_with_len 0 (row_counts tables entry)))
  pub value : (value : Value)
      → DominatesKeys (list_of_value pair value) (map key (rows_where tables entry (has_value tables entry pair.filter value)))
  pub node : (size leaf : ℕ) → IsNodeSize size → leaf < 32
      → DominatesKeys (list_of_node pair size leaf) (map key (rows_where tables entry (is_in_node pair tables entry size leaf)))

-- the section stands for the rows of an entry's table. It has the number of these rows, and each of its pairs stands for them. The keys may be any
-- numbers that are equal exactly if the rows' values in the pair's joined column are equal
pub record SectionStandsFor (section : TableStats) (tables : Tables) (entry : ℕ) : Type 0 where
  pub rows : section.rows ≡ row_counts tables entry
  pub pairs : All (λ (pair : PairStats). (key : ℕ → ℕ) → SeparatesValues tables entry pair.joined key → PairStandsFor pair tables entry key) section.pairs

-- the section of a table, if the file has one
abbrev pub section_of : StatsFile → ℕ → Option TableStats
section_of file table = find (λ (section : TableStats). section.table == table) file.tables

-- if the file has a section for a table that the query names, the section stands for that table's rows
abbrev pub StandsFor : Query → StatsFile → Tables → Type 0
StandsFor query file tables = (entry : ℕ) (section : TableStats) → entry < length query.from
    → section_of file (table_of query entry) ≡ Some section → SectionStandsFor section tables entry

-- FROM entries of the same table have the same rows, as in a query over a database
abbrev pub ShareRows : Query → Tables → Type 0
ShareRows query tables = (entry other : ℕ) → entry < length query.from → other < length query.from
    → table_of query entry ≡ table_of query other → tables entry ≡ tables other
