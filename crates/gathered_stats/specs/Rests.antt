-- The rest lists of filter columns. They are kept while the steps of one joined column get their lists.
use Rattle.std.specs.Prelude.{◌≡◌, ℕ, ◌==◌, Bool, false, if◌then◌else◌, List, [], ◌∷◌, ◌++◌, Option, None, Some}
use Rattle.std.specs.List.{list_any, zip}
use Rattle.cond_stats.specs.Frequency.{frequent}
use Rattle.cond_stats.specs.Lists.{rest}
use Rattle.gathered_stats.specs.declared.entry_table.EntryTable.{EntryTable}
use Rattle.gathered_stats.specs.declared.rests.RestList.{RestList}
use Rattle.gathered_stats.specs.Columns.{cells_in}
use Rattle.gathered_stats.specs.ShownCells.{shown_cells}

-- the value with this cell is one of the column's frequent values. A value that has no cell (None) isn't frequent
abbrev pub among_frequent : List ℕ → Option ℕ → Bool
among_frequent column None = false
among_frequent column (Some cell) = list_any (λ other. other == cell) (frequent column)

-- the rest list of the table's filter column with this number, for these keys of its rows
abbrev pub rest_in : EntryTable → List ℕ → ℕ → List ℕ
rest_in table keys column = rest table.accuracy (zip (cells_in (shown_cells table) column) keys)

-- the kept list is the rest list of its filter column for these keys
abbrev pub IsRestOf : EntryTable → List ℕ → RestList → Type 0
IsRestOf table keys kept = kept.list ≡ rest_in table keys kept.column

-- the rest list of this filter column is kept
abbrev pub is_kept : List RestList → ℕ → Bool
is_kept rests column = list_any (λ kept. kept.column == column) rests

-- the kept lists, with the filter column's rest list added at the end if it isn't kept yet
abbrev pub with_rest : EntryTable → List ℕ → ℕ → List RestList → List RestList
with_rest table keys column rests = if is_kept rests column then rests
    else rests ++ (record { column = column; list = rest_in table keys column }) ∷ []
