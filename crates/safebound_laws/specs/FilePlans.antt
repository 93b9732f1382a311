-- What a plan from a statistics file says about the rows in table files. `stats` read some of these rows, and `append` may have read more.
use Rattle.std.specs.Prelude.{ℕ, ◌≡◌, ◌<◌, ◌==◌, if◌then◌else◌, ◌++◌, List, [], ◌∷◌, length, slice_get, Some, Ok, true, ⊤}
use Rattle.std.specs.List.{flat_map}
use Rattle.std.specs.Str.{str_eq_ignore_ascii_case}
use Rattle.base_io.specs.Files.{file_of}
use Rattle.csv_tables.specs.Files.{rows_of_file}
use Rattle.csv_tables.specs.Rows.{Row}
use Rattle.stats_file_of_query.specs.Needs.{table_of}
use Rattle.join_steps.specs.Lists.{scans_of}
use Rattle.plan_nearness.specs.Nearness.{LevelsAreNear, NodesAreNear}
use Rattle.query_types.specs.declared.types.Query.{Query}
use Rattle.schema_types.specs.declared.types.Schema.{Schema}
use Rattle.schema_types.specs.declared.types.Table.{Table}
use Rattle.sql_meaning.specs.Tables.{Tables}
use Rattle.safebound_top.specs.Call.{Grew}
use Rattle.safebound_top.specs.Promise.{AreInFile, AsksQuery, PrintsPlan}
use Rattle.safebound_top.specs.Texts.{plan_text_of}
use Rattle.prepared_runs.specs.Shapes.{planned_by}
use Rattle.prepared_runs.specs.Sources.{bounds_and_lists_by}
use Rattle.plans.specs.declared.bushy.BushyPlan.{BushyPlan}
use Rattle.plans.specs.Orders.{order_of_tree}
use Rattle.safebound_words.specs.declared.command.Shape.{Shape}
use Rattle.safebound_words.specs.declared.command.Shape.TheVariants as shapes
use Rattle.safebound_words.specs.declared.command.ListSource.TheVariants as sources
use Rattle.safebound_laws.specs.FileCalls.{AppendCall, PlanCall, StatsCall}

-- ---- the rows that `stats` read

-- `query` is the query that `plan --stats` read. `tables` has for each entry of the query the rows of its table's file, as `stats` read the file
pub record IsOver (made : StatsCall) (planned : PlanCall) (schema : Schema) (query : Query) (tables : Tables) : Type 0 where
  pub asks : AsksQuery planned.files planned.query_file schema query
  pub rows : (entry : ℕ) → entry < length query.from → AreInFile made.files schema query entry (tables entry)

-- `plan --stats` wrote the text of a plan to notes. Over the rows that `stats` read, no scan and no level or node has more rows than the text
-- says
pub record PlanHolds (made : StatsCall) (planned : PlanCall) (schema : Schema) : Type 0 where
  pub query : Query
  pub tables : Tables
  pub over : IsOver made planned schema query tables
  pub text : List ℕ
  pub plan : PrintsPlan planned.terms.shape planned.terms.memory query tables (scans_of query tables) text
  pub written : Grew planned.call.notes text

-- The plan that `plan --stats` wrote to notes is the one that `plan` makes from the rows that `stats` read. This plan is at the accuracy of `stats`,
-- and on the terms (shape, budget, limit of memory) of `plan --stats`
pub record PlanIsOfTables (made : StatsCall) (planned : PlanCall) (schema : Schema) : Type 0 where
  pub query : Query
  pub tables : Tables
  pub over : IsOver made planned schema query tables
  pub plan : BushyPlan
  pub same : planned_by planned.terms.shape (bounds_and_lists_by sources.Columns schema query tables) made.accuracy planned.terms.budget ≡ Ok plan
  pub written : Grew planned.call.notes (plan_text_of query.from planned.terms.shape plan planned.terms.memory)

-- the bound of each level or inner node is near the bound without compression
abbrev pub PartsAreNear : Query → Tables → ℕ → Shape → BushyPlan → Type 0
PartsAreNear query tables accuracy shapes.Order plan = LevelsAreNear query tables accuracy (order_of_tree plan)
PartsAreNear query tables accuracy shapes.Tree plan = NodesAreNear query tables accuracy plan

-- `plan --stats` wrote a plan to notes. Over the rows that `stats` read, the bound of each level or inner node is near the bound without
-- compression
pub record PlanIsNear (made : StatsCall) (planned : PlanCall) (schema : Schema) : Type 0 where
  pub query : Query
  pub tables : Tables
  pub over : IsOver made planned schema query tables
  pub plan : BushyPlan
  pub near : PartsAreNear query tables made.accuracy planned.terms.shape plan
  pub written : Grew planned.call.notes (plan_text_of query.from planned.terms.shape plan planned.terms.memory)

-- ---- the rows that were appended

-- new rows for the table with this number in the schema
pub record AddedRows : Type 0 where
  pub table : ℕ
  pub rows : List Row

-- the words of `append` name the table and a file, and the added rows are the rows in this file
pub record AddsRowsOfFile (schema : Schema) (append : AppendCall) (added : AddedRows) : Type 0 where
  pub table : Table
  pub is_table : slice_get schema.tables added.table ≡ Some table
  pub named : str_eq_ignore_ascii_case table.name append.names.table ≡ true
  pub bytes : List ℕ
  pub there : file_of append.files append.names.rows_file ≡ Some bytes
  pub read : rows_of_file table bytes ≡ Ok added.rows

-- there are as many `AddedRows` as calls of `append`, and call i added the rows at index i
abbrev pub EachAddsRowsOfFile : Schema → List AppendCall → List AddedRows → Type 0
EachAddsRowsOfFile schema [] [] = ⊤
EachAddsRowsOfFile schema [] (added ∷ more) = ⊥
EachAddsRowsOfFile schema (append ∷ appends) [] = ⊥
EachAddsRowsOfFile schema (append ∷ appends) (added ∷ more) = AddsRowsOfFile schema append added × EachAddsRowsOfFile schema appends more

-- all rows that were added to a table, in the order of the calls
abbrev pub rows_added_to : ℕ → List AddedRows → List Row
rows_added_to table added = flat_map (λ (more : AddedRows). if table == more.table then more.rows else []) added

-- the rows of each entry, and then the rows that were added to its table
abbrev pub with_added_rows : Query → Tables → List AddedRows → Tables
with_added_rows query tables added entry = tables entry ++ rows_added_to (table_of query entry) added

-- `plan --stats` wrote the text of a plan to notes. Over the rows that `stats` read, with all added rows after them, no scan and no level
-- or node has more rows than the text says
pub record GrownPlanHolds (made : StatsCall) (appends : List AppendCall) (planned : PlanCall) (schema : Schema) : Type 0 where
  pub query : Query
  pub tables : Tables
  pub over : IsOver made planned schema query tables
  pub added : List AddedRows
  pub adds : EachAddsRowsOfFile schema appends added
  pub text : List ℕ
  pub plan : PrintsPlan planned.terms.shape planned.terms.memory query (with_added_rows query tables added) (scans_of query (with_added_rows query tables added)) text
  pub written : Grew planned.call.notes text
