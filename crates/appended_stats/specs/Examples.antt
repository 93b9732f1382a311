-- Pairs of examples, before and after an append.
use Rattle.std.specs.Prelude.{ℕ, List, [], ◌∷◌}
use Rattle.csv_tables.specs.Rows.{Row}
use Rattle.stats_file.specs.declared.types.PairStats.{PairStats}
use Rattle.stats_file_of_query.specs.Examples.{rows_of}
use Rattle.stats_file_of_query.specs.Pairs.{pair_in_table}
use Rattle.appended_stats.specs.Appended.{pair_after}

-- new rows with one column, of these numbers
abbrev pub new_rows : List ℕ → List Row
new_rows column = rows_of column 0

-- the pair that has this column as its filter column and as its joined column
abbrev pub stats_of_column_with_itself : List ℕ → PairStats
stats_of_column_with_itself column = pair_in_table (rows_of column) 1 0 0 0

abbrev pub pair_of_six_rows : PairStats
pair_of_six_rows = stats_of_column_with_itself (1 ∷ 1 ∷ 1 ∷ 2 ∷ 2 ∷ 3 ∷ [])

-- the pair of the column [1, 1, 1, 2, 2, 3], after 1 and 4 were appended to the column
abbrev pub pair_of_eight_rows : PairStats
pair_of_eight_rows = pair_after 1 6 (new_rows (1 ∷ 4 ∷ [])) pair_of_six_rows

-- the pair of the column [1, 2, 3], after 99 was appended to the column
abbrev pub pair_of_four_rows : PairStats
pair_of_four_rows = pair_after 1 3 (new_rows (99 ∷ [])) (stats_of_column_with_itself (1 ∷ 2 ∷ 3 ∷ []))
