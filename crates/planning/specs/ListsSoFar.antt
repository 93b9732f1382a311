-- Row bounds of entries and degree sequences of columns, collected one after another from a list of rows for each entry.
use Rattle.std.specs.Prelude.{◌≡◌, ℕ, ◌<◌, ◌≤◌, List, length, Some, None}
use Rattle.csv_tables.specs.declared.types.Database.{Database}
use Rattle.bound_fold.specs.declared.lists.EntryLists.{EntryLists}
use Rattle.bound_fold.specs.Lists.{list_of, row_bound_of}
use Rattle.sql_meaning.specs.Tables.{tables_of}
use Rattle.join_steps.specs.Lists.{listed_row_count}
use Rattle.planning.specs.ListedBounds.{entry_bounds_over}

-- each of the first `count` entries has the number of its listed rows as its row bound. No other entry has a row bound
pub record HasRows (lists : List (List ℕ)) (count : ℕ) (known : EntryLists) : Type 0 where
  pub there : (entry : ℕ) → entry < count → row_bound_of known entry ≡ Some (listed_row_count lists entry)
  pub past : (entry : ℕ) → count ≤ entry → row_bound_of known entry ≡ None

-- each entry has its row bound. Each degree sequence that was collected is that of its column over the entry's list of rows
pub record IsKnown (db : Database) (lists : List (List ℕ)) (accuracy : ℕ) (known : EntryLists) : Type 0 where
  pub rows : HasRows lists (length lists) known
  pub columns : (entry column : ℕ) (list : List ℕ) → list_of known entry column ≡ Some list
      → list ≡ (entry_bounds_over (tables_of db) lists accuracy).list entry column
