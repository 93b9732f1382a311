-- The statistics that a file gives for the entries of a query.
use Rattle.std.specs.Prelude.{ℕ, ◌==◌, if◌then◌else◌, Bool, List, [], ◌∷◌, length, slice_index}
use Rattle.std.specs.List.{list_any, sum}
use Rattle.filtered_lists.specs.Lists.{ColumnLists, RowCounts}
use Rattle.query_bounds.specs.Statistics.{Statistics}
use Rattle.query_types.specs.declared.types.Query.{Query}
use Rattle.stats_file.specs.declared.types.StatsFile.{StatsFile}
use Rattle.stats_file.specs.declared.types.TableStats.{TableStats}
use Rattle.stats_file_of_query.specs.declared.needs.Needs.{Needs}
use Rattle.stats_file_of_query.specs.Needs.{needs_of}
use Rattle.stats_file_of_query.specs.Standing.{list_between, list_of_value}
use Rattle.stats_file_bounds.specs.Found.{pair_for, section_for}

-- ---- the lists of a joined column

-- the column with which a filter column makes a pair: the joined column. If the entry joins no column, it is the filter column itself
abbrev pub paired_with : Needs → ℕ → ℕ → ℕ
paired_with needs joined column = if length needs.joined == 0 then column else joined

-- the degree list of rows that all have the same key
abbrev pub list_of_one_key : ℕ → List ℕ
list_of_one_key rows = if rows == 0 then [] else (rows ∷ [])

-- the list of all rows. It is taken from the pair of the first filter column. An entry without filter columns has it from the pair of the joined
-- column with itself. An entry that needs no pair gets the list of one key that all rows have
abbrev pub whole_by : TableStats → Needs → List ℕ → ℕ → List ℕ
whole_by section needs [] joined = if length needs.joined == 0 then list_of_one_key section.rows else (pair_for section joined joined).whole
whole_by section needs (column ∷ columns) joined = (pair_for section column (paired_with needs joined column)).whole

abbrev pub whole_list : TableStats → Needs → ℕ → List ℕ
whole_list section needs joined = whole_by section needs needs.filters joined

abbrev pub is_filter : Needs → ℕ → Bool
is_filter needs column = list_any (λ other. column == other) needs.filters

-- the lists of a joined column of an entry. A column that isn't a filter column of the entry has the list of all rows
abbrev pub stats_file_lists : TableStats → Needs → ℕ → ColumnLists
stats_file_lists section needs joined = record {
  whole = whole_list section needs joined;
  equal = λ column value. if is_filter needs column then list_of_value (pair_for section column (paired_with needs joined column)) value
      else whole_list section needs joined;
  range = λ range. if is_filter needs range.column then list_between (pair_for section range.column (paired_with needs joined range.column)) range.low range.high
      else whole_list section needs joined;
}

-- ---- the numbers of rows of an entry

-- for each list the number of rows that it counts: its sum
abbrev pub counts_of : ColumnLists → RowCounts
counts_of lists = record {
  whole = sum lists.whole;
  equal = λ column value. sum (lists.equal column value);
  range = λ range. sum (lists.range range);
}

-- the numbers of rows that the lists of the first joined column count. The lists of all joined columns give the same numbers
abbrev pub stats_file_counts : TableStats → Needs → RowCounts
stats_file_counts section needs = counts_of (stats_file_lists section needs (slice_index needs.joined 0))

-- ---- the statistics of a query

abbrev pub stats_file_statistics : Query → StatsFile → Statistics
stats_file_statistics query file = record {
  counts = λ entry. stats_file_counts (section_for query file entry) (needs_of query entry);
  lists = λ entry joined. stats_file_lists (section_for query file entry) (needs_of query entry) joined;
}
