-- Pairs of a filter column and a joined column.
use Rattle.std.specs.Prelude.{ℕ, Bool, ◌==◌, ◌&&◌, List, [], ◌∷◌, map}
use Rattle.std.specs.List.{flat_map}
use Rattle.stats_file_of_query.specs.declared.column_pairs.ColumnPair.{ColumnPair}

abbrev pub column_pair : ℕ → ℕ → ColumnPair
column_pair filter joined = record { filter = filter; joined = joined }

-- the pair has these columns
abbrev pub is_pair : ℕ → ℕ → ColumnPair → Bool
is_pair filter joined pair = pair.filter == filter && pair.joined == joined

abbrev pub of_itself : ℕ → ColumnPair
of_itself column = column_pair column column

-- the pairs of a filter column with each joined column
abbrev pub with_each : List ℕ → ℕ → List ColumnPair
with_each joined filter = map (column_pair filter) joined

-- the pairs of each filter column with each joined column. If there are no filter columns or no joined columns, the pairs of each column with itself
abbrev pub pairs_between : List ℕ → List ℕ → List ColumnPair
pairs_between [] joined = map of_itself joined
pairs_between (filter ∷ filters) [] = map of_itself (filter ∷ filters)
pairs_between (filter ∷ filters) (column ∷ joined) = flat_map (with_each (column ∷ joined)) (filter ∷ filters)
