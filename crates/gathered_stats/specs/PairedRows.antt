-- Filter columns with their cells in chosen rows of their table, and the steps gathered for columns of another entry. Each chosen row is paired
-- with the row of the other entry that has the same index.
use Rattle.std.specs.Prelude.{◌≡◌, ℕ, ◌==◌, ◌<◌, true, List, All, IfSome, length, map}
use Rattle.std.specs.List.{list_any}
use Rattle.csv_tables.specs.declared.types.Cells.{Cells}
use Rattle.csv_tables.specs.declared.types.Database.{Database}
use Rattle.query_types.specs.declared.types.Query.{Query}
use Rattle.join_graph.specs.Conjuncts.{equalities_of}
use Rattle.filtered_lists.specs.Lists.{ColumnLists}
use Rattle.predicate_bounds.specs.declared.columns.ColumnSteps.{ColumnSteps}
use Rattle.predicate_bounds.specs.declared.columns.EntryStats.{EntryStats}
use Rattle.predicate_bounds.specs.declared.steps.Step.{Step}
use Rattle.predicate_bounds.specs.ListRuns.{with_list}
use Rattle.predicate_bounds.specs.Steps.{steps_of}
use Rattle.sql_meaning.specs.Tables.{cells_of}
use Rattle.gathered_stats.specs.declared.paired_rows.PickedColumn.{PickedColumn}
use Rattle.gathered_stats.specs.declared.entry_table.EntryTable.{EntryTable}
use Rattle.gathered_stats.specs.Asked.{compared_column, joined_columns}
use Rattle.gathered_stats.specs.Columns.{AreListsOfKeys, cells_in, kind_in}
use Rattle.gathered_stats.specs.ShownCells.{cells_at, picked, shown_cells}

-- `one` has the table's column with this number, with its cells in these rows
pub record IsPicked (cells : Cells) (rows : List ℕ) (column : ℕ) (one : PickedColumn) : Type 0 where
  pub exists : column < length cells.kinds
  pub number : one.column ≡ column
  pub kind : one.kind ≡ kind_in cells column
  pub cells_are : one.cells.items ≡ picked rows (cells_in cells column)

abbrev pub ArePicked : Cells → List ℕ → List PickedColumn → Type 0
ArePicked cells rows columns = All (λ one. IsPicked cells rows one.column one) columns

-- if the step compares a column with literals, this column is among `columns`
abbrev pub HasColumnFor : List PickedColumn → Step → Type 0
HasColumnFor columns step = IfSome (compared_column step) (λ column. list_any (λ other. other.column == column) columns ≡ true)

-- `gathered` has these steps: their conditions are on `cells`, and their lists are of keys in a column of `other_cells`. The column's cells in the
-- rows `rows` are these keys
abbrev pub AreStepsOfPaired : List (List ℕ) → Cells → ℕ → Cells → List ℕ → List Step → ColumnSteps → Type 0
AreStepsOfPaired texts cells accuracy other_cells rows steps gathered = (lists : ColumnLists)
    → AreListsOfKeys texts cells accuracy (picked rows (cells_in other_cells gathered.column)) lists → gathered.steps ≡ map (with_list lists) steps

-- the steps over the cells that the table shows are gathered for each of these columns of `other_cells`
pub record AreGatheredForPaired (table : EntryTable) (other_cells : Cells) (rows : List ℕ) (steps : List Step) (columns : List ℕ) (stats : EntryStats) : Type 0 where
  pub columns_are : map (λ gathered. gathered.column) stats.columns ≡ columns
  pub steps_are : All (AreStepsOfPaired table.pool.now (shown_cells table) table.accuracy other_cells rows steps) stats.columns

-- For each joined column of entry `other`, the statistics have the steps of the own conjuncts of entry `entry`, over the rows `rows` of its table.
-- The keys are the keys of the paired rows, `other_rows`
pub record IsGatheredForPaired (query : Query) (db : Database) (accuracy entry : ℕ) (rows : List ℕ) (other : ℕ) (other_rows : List ℕ) (stats : EntryStats) : Type 0 where
  pub columns_are : map (λ gathered. gathered.column) stats.columns ≡ joined_columns other (equalities_of query)
  pub steps_are : All (AreStepsOfPaired db.pool (cells_at rows (cells_of db entry)) accuracy (cells_of db other) other_rows (steps_of entry query.conjuncts))
      stats.columns
