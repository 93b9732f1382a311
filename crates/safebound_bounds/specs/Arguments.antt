-- When the values that a caller hands in for a query are valid.
use Rattle.std.specs.Prelude.{◌≡◌, ◌≢◌, ℕ, ◌+◌, ◌-◌, ◌^◌, ◌<◌, ◌≤◌, Bool, true, false, ◌==◌, ◌&&◌, List, length, take, drop, slice_index, slice_index_or}
use Rattle.std.specs.List.{list_any}
use Rattle.limits.specs.Profile.{greatest_rows}
use Rattle.safebound_lists.specs.declared.runs.Run.{Run}
use Rattle.safebound_lists.specs.First.{IsFirstWrong}
use Rattle.safebound_lists.specs.Runs.{AreValid, IsValidAt}
use Rattle.safebound_bounds.specs.declared.arguments.ColumnList.{ColumnList}
use Rattle.safebound_bounds.specs.declared.arguments.Equality.{Equality}

-- ---- row bounds

abbrev pub IsRowBoundValidAt : List ℕ → ℕ → Type 0
IsRowBoundValidAt rows i = slice_index rows i ≤ greatest_rows

-- ---- equalities

abbrev pub default_equality : Equality
default_equality = record { left_entry = 0; left_column = 0; right_entry = 0; right_column = 0 }

abbrev pub equality_at : List Equality → ℕ → Equality
equality_at equalities i = slice_index_or equalities i default_equality

-- both entries of the equality exist, and they are different
pub record IsEqualityValid (entries : ℕ) (equality : Equality) : Type 0 where
  pub left : equality.left_entry < entries
  pub right : equality.right_entry < entries
  pub two : equality.left_entry ≢ equality.right_entry

-- ---- lists

abbrev pub default_list : ColumnList
default_list = record { entry = 0; column = 0; first = 0; length = 0 }

abbrev pub list_at : List ColumnList → ℕ → ColumnList
list_at lists i = slice_index_or lists i default_list

-- whether the list is that of this column
abbrev pub is_list_of_column : ℕ → ℕ → ColumnList → Bool
is_list_of_column entry column list = list.entry == entry && list.column == column

-- the value of `first` in the list of a column in which no row has a value
abbrev pub no_values : ℕ
no_values = 2 ^ 64 - 1

-- the runs of a list exist. If the list has no runs, its field `first` says that no row has a value in the column
pub record RunsExist (runs : ℕ) (list : ColumnList) : Type 0 where
  pub there : 0 < list.length → list.first + list.length ≤ runs
  pub marked : list.length ≡ 0 → list.first ≡ no_values

-- the list's entry exists, its runs exist, and no earlier list is that of the same column
pub record IsListValid (entries runs : ℕ) (before : List ColumnList) (list : ColumnList) : Type 0 where
  pub entry : list.entry < entries
  pub runs_there : RunsExist runs list
  pub once : list_any (is_list_of_column list.entry list.column) before ≡ false

abbrev pub IsListValidAt : ℕ → ℕ → List ColumnList → ℕ → Type 0
IsListValidAt entries runs lists i = IsListValid entries runs (take i lists) (list_at lists i)

-- ---- runs

-- the runs of a list
abbrev pub runs_of : List Run → ColumnList → List Run
runs_of runs list = take list.length (drop list.first runs)

abbrev pub AreRunsValidAt : List ColumnList → List Run → ℕ → Type 0
AreRunsValidAt lists runs i = AreValid (runs_of runs (list_at lists i))

-- `place` is the index of an invalid run in the call's array of runs. It is the first invalid run of the first list that has one
pub record IsWrongRun (lists : List ColumnList) (runs : List Run) (place : ℕ) : Type 0 where
  pub list : ℕ
  pub first_list : IsFirstWrong (AreRunsValidAt lists runs) (length lists) list
  pub run : ℕ
  pub first_run : IsFirstWrong (IsValidAt (runs_of runs (list_at lists list))) (length (runs_of runs (list_at lists list))) run
  pub at : place ≡ (list_at lists list).first + run

-- ---- both columns of an equality have a list
pub record ColumnsHaveLists (lists : List ColumnList) (equality : Equality) : Type 0 where
  pub left : list_any (is_list_of_column equality.left_entry equality.left_column) lists ≡ true
  pub right : list_any (is_list_of_column equality.right_entry equality.right_column) lists ≡ true
