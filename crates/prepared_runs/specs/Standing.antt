-- Facts about the bounds and lists of each source (law `sources_are_sound` of safebound_laws).
use Rattle.std.specs.Prelude.{◌≡◌, ℕ, ◌^◌, ◌<◌, ◌≤◌, List, length, slice_index}
use Rattle.limits.specs.Profile.{most_entries}
use Rattle.degree_sequences.specs.Saturation.{saturated}
use Rattle.query_types.specs.Named.{NamesItsEntries}
use Rattle.query_types.specs.declared.types.Query.{Query}
use Rattle.sql_meaning.specs.Answers.{conjuncts_of, entries_of}
use Rattle.sql_meaning.specs.Levels.{level}
use Rattle.sql_meaning.specs.Tables.{Tables, row_counts}
use Rattle.join_steps.specs.Lists.{list_levels, AreOfScans}
use Rattle.level_bounds.specs.Orders.{IsOrderOfSet}
use Rattle.planning.specs.Standing.{BoundLevels, BoundLists}
use Rattle.prepared_runs.specs.Sources.{BoundsAndLists}

-- no row of the answer is lost if only the listed rows are joined: the lists have scanned rows, and the last level over the lists is the last
-- level of the query
pub record LoseNoRow (query : Query) (tables : Tables) (lists : List (List ℕ)) : Type 0 where
  pub scanned : AreOfScans query tables lists
  pub last : NamesItsEntries query → (order : List ℕ) → IsOrderOfSet (entries_of query) order
      → list_levels query tables lists order (length order) ≡ level (conjuncts_of query tables) (row_counts tables) order (length order)

-- of a query's n entries, each alone has the bound of its scan, as far as 128 bits go
abbrev pub BoundSingles : ℕ → List ℕ → List ℕ → Type 0
BoundSingles n sets scans = n ≤ most_entries → (entry : ℕ) → entry < n → slice_index sets (2 ^ entry) ≡ saturated (slice_index scans entry)

-- the source's lists lose no row of the answer. At every accuracy, no list has more rows than its bound, and no level over the lists has
-- more rows than the bound of its set. Each entry alone has the bound of its scan
pub record IsSource (query : Query) (tables : Tables) (given : BoundsAndLists) : Type 0 where
  pub rows : LoseNoRow query tables given.lists
  pub of_scans : (accuracy : ℕ) → BoundLists query tables given.lists (given.scans accuracy)
  pub of_sets : (accuracy : ℕ) → BoundLevels query tables given.lists (given.sets accuracy)
  pub of_all_sets : (accuracy : ℕ) → length (given.sets accuracy) ≡ 2 ^ length query.from
  pub of_single : (accuracy : ℕ) → BoundSingles (length query.from) (given.sets accuracy) (given.scans accuracy)
