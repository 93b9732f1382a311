-- The list of a filtered entry, and its row bound.
use Rattle.std.specs.Prelude.{ℕ, ◌+◌, min, List, []}
use Rattle.csv_tables.specs.Values.{Value}
use Rattle.degree_sequences.specs.ByRank.{rank_sum}
use Rattle.degree_sequences.specs.RunningSums.{lesser}
use Rattle.query_types.specs.declared.types.Cond.{Cond}
use Rattle.filtered_lists.specs.Filters.{ComparisonAnswers, filtered}
use Rattle.filtered_lists.specs.Ranges.{Range}

-- The lists that statistics have for a joined column of an entry: for all rows, for the rows that have a given value in a filter column, and for the
-- rows in a given range of a filter column
pub record ColumnLists : Type 0 where
  pub whole : List ℕ
  pub equal : ℕ → Value → List ℕ
  pub range : Range → List ℕ

-- AND takes the lesser running sum at each rank; OR adds the lists rank by rank
abbrev pub list_answers : ColumnLists → ComparisonAnswers (List ℕ)
list_answers lists = record { whole = lists.whole; equal = lists.equal; range = lists.range; both = lesser; none = []; either = rank_sum }

-- the list of a joined column of an entry that is filtered by its own conjuncts
abbrev pub filtered_list : ColumnLists → ℕ → List Cond → List ℕ
filtered_list lists entry conjuncts = filtered (list_answers lists) entry conjuncts

-- the numbers of rows that statistics have for an entry: of all rows, of the rows with a value in a filter column, and of the rows in a range of it
pub record RowCounts : Type 0 where
  pub whole : ℕ
  pub equal : ℕ → Value → ℕ
  pub range : Range → ℕ

-- AND takes the lesser number, OR the sum
abbrev pub count_answers : RowCounts → ComparisonAnswers ℕ
count_answers counts = record { whole = counts.whole; equal = counts.equal; range = counts.range; both = min; none = 0; either = ◌+◌ }

-- the row bound of an entry that is filtered by its own conjuncts
abbrev pub row_bound : RowCounts → ℕ → List Cond → ℕ
row_bound counts entry conjuncts = filtered (count_answers counts) entry conjuncts
