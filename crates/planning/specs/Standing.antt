-- Bounds of entries that stand for lists of rows. Bounds of scans and of sets that are never too low for such lists.
use Rattle.std.specs.Prelude.{◌≡◌, ◌⊎◌, ℕ, ◌^◌, ◌<◌, ◌≤◌, List, length, map, slice_index}
use Rattle.limits.specs.Profile.{top_bound}
use Rattle.degree_sequences.specs.Domination.{DominatesKeys}
use Rattle.entry_sets.specs.Sets.{entries_of_set}
use Rattle.query_types.specs.declared.types.Query.{Query}
use Rattle.join_graph.specs.Conjuncts.{equalities_of}
use Rattle.tree_bounds.specs.Columns.{EachNamedColumn}
use Rattle.tree_bounds.specs.Scans.{scanned}
use Rattle.tree_bounds.specs.SetBounds.{SetHasLists}
use Rattle.tree_bounds.specs.Tables.{SetDominates}
use Rattle.tree_bounds.specs.TreeBounds.{EntryBounds, HasList}
use Rattle.sql_meaning.specs.Answers.{conjuncts_of}
use Rattle.sql_meaning.specs.Levels.{level_over}
use Rattle.sql_meaning.specs.Tables.{Tables, row_counts}
use Rattle.join_steps.specs.Lists.{list_at, listed_row_count, AreOfScans}
use Rattle.level_bounds.specs.Keys.{AreKeys, Keys}
use Rattle.level_bounds.specs.Orders.{IsOrderOfSet}

-- ---- bounds of entries

-- `bounds` stands for the listed rows in a set. `sufficient_lists` has lists of scanned rows; over them the set's level is the same as over the
-- listed rows. Each entry of the set has at most as many rows in `sufficient_lists` as its row bound. The degree sequence of each column that joins
-- two entries of the set dominates the degrees of the keys of these rows
pub record StandInSet (query : Query) (tables : Tables) (lists : List (List ℕ)) (key : Keys) (bounds : EntryBounds) (subset : ℕ) : Type 0 where
  pub sufficient_lists : List (List ℕ)
  pub are : AreOfScans query tables sufficient_lists
  pub none_lost : (order : List ℕ) → IsOrderOfSet (entries_of_set subset) order
      → level_over (conjuncts_of query tables) (list_at lists) order ≡ level_over (conjuncts_of query tables) (list_at sufficient_lists) order
  pub have_lists : SetHasLists bounds (equalities_of query) subset
  pub dominate : SetDominates bounds (scanned (list_at sufficient_lists) key) (equalities_of query) subset

-- rows that an equality joins have the same key, and the bounds of the entries in each set stand for the listed rows
pub record StandForLists (query : Query) (tables : Tables) (lists : List (List ℕ)) (key : Keys) (bounds : ℕ → EntryBounds) : Type 0 where
  pub keys : AreKeys tables key (equalities_of query)
  pub each_set : (subset : ℕ) → subset < 2 ^ length query.from → StandInSet query tables lists key (bounds subset) subset

-- ---- bounds of entries that are the same in every set

-- each joined column of a FROM entry has its degree sequence
abbrev pub JoinedHaveLists : Query → EntryBounds → Type 0
JoinedHaveLists query bounds = EachNamedColumn (λ entry column. entry < length query.from → HasList bounds entry column) (equalities_of query)

-- the degree sequence of a column is in descending order and sums to the row bound of its entry. It dominates the degrees of the keys that the listed
-- rows have in the column
pub record ColumnStands (lists : List (List ℕ)) (key : Keys) (bounds : EntryBounds) (entry column : ℕ) : Type 0 where
  pub has : HasList bounds entry column
  pub dominates : DominatesKeys (bounds.list entry column) (map (key entry column) (list_at lists entry))

-- rows that an equality joins have the same key. The row bound of each FROM entry is at least the number of its listed rows. `ColumnStands` is true
-- for each column that an equality joins
pub record EntriesStand (query : Query) (tables : Tables) (lists : List (List ℕ)) (key : Keys) (bounds : EntryBounds) : Type 0 where
  pub keys : AreKeys tables key (equalities_of query)
  pub rows : (entry : ℕ) → entry < length query.from → listed_row_count lists entry ≤ bounds.rows entry
  pub columns : EachNamedColumn (λ entry column. entry < length query.from → ColumnStands lists key bounds entry column) (equalities_of query)

-- ---- bounds of scans and of sets

-- the bound of each scan is at least the number of its listed rows, and at most the number of rows of its table
pub record BoundLists (query : Query) (tables : Tables) (lists : List (List ℕ)) (scans : List ℕ) : Type 0 where
  pub one_each : length scans ≡ length query.from
  pub fit : (entry : ℕ) → entry < length query.from → listed_row_count lists entry ≤ slice_index scans entry
  pub within : (entry : ℕ) → entry < length query.from → slice_index scans entry ≤ row_counts tables entry

-- no level over the lists of a set's entries has more rows than the bound of the set, in whatever order the entries are joined. If the set's
-- bound is `top_bound`, its levels may have any number of rows
abbrev pub BoundLevels : Query → Tables → List (List ℕ) → List ℕ → Type 0
BoundLevels query tables lists sets = (subset : ℕ) (order : List ℕ) → subset < 2 ^ length query.from → IsOrderOfSet (entries_of_set subset) order
    → (length (level_over (conjuncts_of query tables) (list_at lists) order) ≤ slice_index sets subset) ⊎ (slice_index sets subset ≡ top_bound)
