-- The widened table: the rows that refer to a row, each with the row to which it refers.
use Rattle.std.specs.Prelude.{ℕ, Bool, false, List, [], map, filter, Option, Some, None, option_map, position, slice_index_or}
use Rattle.std.specs.List.{filter_map, range_with_len}
use Rattle.csv_tables.specs.Values.{Value}
use Rattle.berge_tree.specs.declared.edges.Edge.{Edge}
use Rattle.query_types.specs.declared.types.Query.{Query}
use Rattle.sql_meaning.specs.Answers.{conjuncts_of}
use Rattle.sql_meaning.specs.Levels.{passes_own}
use Rattle.sql_meaning.specs.Tables.{Tables, row_counts}
use Rattle.level_bounds.specs.Keys.{are_equal_at, value_at}

-- the row of the right entry to which a row of the left entry refers: the first row with the same value
abbrev pub referred_row : Tables → Edge → ℕ → Option ℕ
referred_row tables e row = position (are_equal_at tables e row) (range_with_len 0 (row_counts tables e.right.entry))

abbrev pub row_pair : ℕ → ℕ → ℕ × ℕ
row_pair row other = (row, other)

-- a row and the row to which it refers, if there is such a row
abbrev pub widened_row : Tables → Edge → ℕ → Option (ℕ × ℕ)
widened_row tables e row = option_map (row_pair row) (referred_row tables e row)

-- the pairs of a row of the left entry and the row to which it refers, in file order. A row that refers to no row is left out
abbrev pub widened : Tables → Edge → List (ℕ × ℕ)
widened tables e = filter_map (widened_row tables e) (range_with_len 0 (row_counts tables e.left.entry))

-- in the widened table: the rows of the left entry, and the rows of the right entry
abbrev pub referring : Tables → Edge → List ℕ
referring tables e = map (λ pair. pair.0) (widened tables e)

abbrev pub referred : Tables → Edge → List ℕ
referred tables e = map (λ pair. pair.1) (widened tables e)

-- ---- tables that have only some rows

-- tables in which each entry has only the rows with these numbers, in this order
abbrev pub tables_at : Tables → List ℕ → Tables
tables_at tables rows entry = map (λ row. slice_index_or (tables entry) row []) rows

-- the values of a column in these rows
abbrev pub values_at : Tables → ℕ → ℕ → List ℕ → List Value
values_at tables entry column rows = map (value_at tables entry column) rows

-- ---- rows that refer to a row of the other entry's scan

-- whether a row was found and passes its entry's own conjuncts
abbrev pub is_scanned : Query → Tables → ℕ → Option ℕ → Bool
is_scanned query tables entry None = false
is_scanned query tables entry (Some row) = passes_own (conjuncts_of query tables) entry row

abbrev pub refers_to_scanned : Query → Tables → Edge → ℕ → Bool
refers_to_scanned query tables e row = is_scanned query tables e.right.entry (referred_row tables e row)

-- the left entry's rows that refer to a row of the right entry's scan, in file order
abbrev pub rows_referring : Query → Tables → Edge → List ℕ
rows_referring query tables e = filter (refers_to_scanned query tables e) (range_with_len 0 (row_counts tables e.left.entry))
