-- The columns of an entry's table that statistics need: its joined columns, and the columns that steps compare with literals. A step is a comparison
-- of an own conjunct, an AND or an OR (`predicate_bounds`).
use Rattle.std.specs.Prelude.{◌≡◌, ℕ, Bool, true, false, ◌==◌, ◌<◌, ◌^◌, ◌&&◌, not, if◌then◌else◌, slice_index_or}
use Rattle.std.specs.Prelude.{All, List, [], ◌∷◌, ◌++◌, map, length, Option, None, Some, IfSome}
use Rattle.std.specs.List.{filter, list_any}
use Rattle.limits.specs.Profile.{most_columns}
use Rattle.berge_tree.specs.declared.edges.Edge.{Edge}
use Rattle.berge_tree.specs.declared.edges.Place.{Place}
use Rattle.berge_tree.specs.Equalities.{places_of}
use Rattle.csv_tables.specs.declared.types.Cells.{Cells}
use Rattle.csv_tables.specs.declared.types.Database.{Database}
use Rattle.degree_sequences.specs.Degrees.{different}
use Rattle.filtered_lists.specs.Lists.{ColumnLists}
use Rattle.join_graph.specs.Conjuncts.{equalities_of}
use Rattle.predicate_bounds.specs.declared.columns.ColumnSteps.{ColumnSteps}
use Rattle.predicate_bounds.specs.declared.columns.EntryStats.{EntryStats}
use Rattle.predicate_bounds.specs.declared.steps.Step.{Step}
use Rattle.predicate_bounds.specs.declared.steps.Step.TheVariants as step
use Rattle.predicate_bounds.specs.ListRuns.{with_list}
use Rattle.predicate_bounds.specs.Steps.{steps_of}
use Rattle.predicate_bounds.specs.StatsLists.{no_columns}
use Rattle.query_types.specs.declared.types.Query.{Query}
use Rattle.sql_meaning.specs.Tables.{cells_of}
use Rattle.gathered_stats.specs.Columns.{AreListsOfKeys, keys_in}

-- ---- joined columns

-- the columns of an entry that equalities name, each once
abbrev pub joined_columns : ℕ → List Edge → List ℕ
joined_columns entry es = different (map (λ p. p.column) (filter (λ p. p.entry == entry) (places_of es)))

-- the number of a column that no table has. All rows have the same key in this column
abbrev pub no_column : ℕ
no_column = most_columns

abbrev pub or_no_column : List ℕ → List ℕ
or_no_column [] = no_column ∷ []
or_no_column (column ∷ columns) = column ∷ columns

-- an entry's joined columns. If it has none, the column that no table has takes their place: the entry's row bound is the same over every column
abbrev pub asked_columns : ℕ → List Edge → List ℕ
asked_columns entry es = or_no_column (joined_columns entry es)

-- `columns`, with the column of `place` appended if it is a column of the entry and isn't in `columns` yet
abbrev pub with_place : ℕ → List ℕ → Place → List ℕ
with_place entry columns place = if place.entry == entry && not (list_any (λ column. place.column == column) columns)
    then columns ++ place.column ∷ [] else columns

-- ---- filter columns

-- the column that a step compares with literals, if it compares one
abbrev pub compared_column : Step → Option ℕ
compared_column step.Whole = None
compared_column (step.Equal column literal) = Some column
compared_column (step.Within range) = Some range.column
compared_column step.And = None
compared_column step.NoRows = None
compared_column step.Or = None

-- the step asks for the list of all rows
abbrev pub asks_for_all_rows : Step → Bool
asks_for_all_rows step.Whole = true
asks_for_all_rows (step.Equal column literal) = false
asks_for_all_rows (step.Within range) = false
asks_for_all_rows step.And = false
asks_for_all_rows step.NoRows = false
asks_for_all_rows step.Or = false

-- if the step asks for a column, the column is a column of the table
abbrev pub AsksWithin : Cells → Step → Type 0
AsksWithin cells step = IfSome (compared_column step) (λ column. column < length cells.kinds)

-- ---- the statistics gathered for columns and entries

-- `gathered` has these steps, each with the list that it asks for, made of the keys of `gathered`'s column
abbrev pub AreStepsOf : List (List ℕ) → Cells → ℕ → List Step → ColumnSteps → Type 0
AreStepsOf texts cells accuracy steps gathered = (lists : ColumnLists)
    → AreListsOfKeys texts cells accuracy (keys_in cells gathered.column) lists → gathered.steps ≡ map (with_list lists) steps

-- for each column that is asked for, an entry's statistics have the steps of its own conjuncts. The entry's table has fewer than 2^32 rows
pub record IsGathered (query : Query) (db : Database) (accuracy entry : ℕ) (stats : EntryStats) : Type 0 where
  pub columns : map (λ gathered. gathered.column) stats.columns ≡ asked_columns entry (equalities_of query)
  pub steps : All (AreStepsOf db.pool (cells_of db entry) accuracy (steps_of entry query.conjuncts)) stats.columns
  pub rows : (cells_of db entry).rows < 2 ^ 32

-- the statistics of the first `count` entries of a query are gathered
pub record AreGathered (query : Query) (db : Database) (accuracy count : ℕ) (entries : List EntryStats) : Type 0 where
  pub as_many : length entries ≡ count
  pub each : (entry : ℕ) → entry < count → IsGathered query db accuracy entry (slice_index_or entries entry no_columns)
