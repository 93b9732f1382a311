-- When an `EntryLists` holds the row bounds and lists of a call. No public contract uses this file.
use Rattle.std.specs.Prelude.{◌≡◌, ℕ, nat_lt, if◌then◌else◌, List, slice_index, Some, None, option_map}
use Rattle.bound_fold.specs.declared.lists.EntryLists.{EntryLists}
use Rattle.bound_fold.specs.Lists.{list_of as list_held, row_bound_of}
use Rattle.safebound_lists.specs.declared.runs.Run.{Run}
use Rattle.safebound_bounds.specs.declared.arguments.ColumnList.{ColumnList}
use Rattle.safebound_bounds.specs.Meaning.{fitted, given_list}

-- `held` has the row bounds of the first n entries, and the lists, each fitted to the row bound of its entry
pub record HoldsListed (rows : List ℕ) (n : ℕ) (lists : List ColumnList) (runs : List Run) (held : EntryLists) : Type 0 where
  pub entries : (entry : ℕ) → row_bound_of held entry ≡ (if nat_lt entry n then Some (slice_index rows entry) else None)
  pub columns : (entry column : ℕ) → list_held held entry column ≡ option_map (fitted (slice_index rows entry)) (given_list lists runs entry column)
