-- What `run` promises, stated only from its words, its files and SQL. One number is the program's own: the line that `--memory` adds is computed
-- from the plan's bounds and the sizes of the program's buffers and their items.
--
-- Suppose that a call of `run` ends with Done, over files that the store tells. Then the schema's file declares one schema, the query's file asks one
-- query of it, and each FROM entry has the rows in its table's file. A plan was printed in which no bound is too low. The printed rows are those of
-- the answer, in any order, each as often as in the answer.
--
-- - Bounds count the rows that a join keeps, and not the rows that it tries. A choice has one scanned row of each entry of a level or node.
--   The choice counts if every conjunct that names only these entries holds. A conjunct that names no entry is tested at every level and
--   node, but not in scans. Under `WHERE 1 = 2` every level and node is empty, and the scans are the same as without this condition.
-- - With `--reduce` or `--count` the text has the same form. Its scan lines then speak of the reduced scans, and levels and nodes are over
--   the reduced scans.
-- - With `--bushy` there is a line for each inner node. A tree of one FROM entry has no inner node: then the line of the scan has the bound
--   of the answer.
-- - With `--keys` the promise is the same as without `--keys`: scans, levels and choices are those of the query as it is written.
-- - Apart from the limit of `--memory`, nothing is said about how high a bound may be. Budget, accuracy, the limit of `--memory` and the flags decide
--   whether a plan is printed, and which plan; the headline says how.
-- - The answer is that of SQL-92 as the profile has it. This answer differs from the standard or from usual engines mainly in these points.
--   Reserved words that sql_tokens doesn't list (`read_words`, `reserved_words`) are plain names. Texts are compared without padding
--   (`value_cmp` of csv_tables). All number types are one kind of 64 bits (`kind_of` of schema_types). No row is tested against a foreign
--   key (`reference_of` of schema_types).
-- - Nothing is promised over a store that doesn't tell its files. If a sink doesn't tell its bytes, `Grew` says only that the sink doesn't tell its
--   bytes afterwards. The contract of stores says that a read gives the bytes of a told file (`read_at` of base_io, by `ReadsAt`). The program's own
--   folder and streams tell nothing; docs/PROVED.md says what is trusted of this folder and these streams.
-- - Plan and rows are promised separately. The clause `buffers` (`KeepsItsBuffers`, in KeptBuffers.antt of prepared_runs) says that the rows were
--   found along the printed plan.
-- - The promise is only about calls that end with Done, and only about words that ask for `run`. Words ask for nothing if they have a flag or
--   an option twice, or two flags or options that exclude each other, or a number out of its range. The headline says in which cases a call
--   ends otherwise, and what the other commands print. A clause of the top call says that each call keeps the promise (`promise` of
--   `safebound`, in src/top_call.rt).
use Rattle.std.specs.Prelude.{ℕ, ◌≡◌, ◌+◌, ◌<◌, ◌≤◌, ◌++◌, List, length, slice_get, slice_index, take, Option, None, Some, Ok, IsPermutation}
use Rattle.base_io.specs.Devices.{Growth}
use Rattle.base_io.specs.Files.{Files, file_of}
use Rattle.schema_types.specs.Texts.{IsSchemaOf}
use Rattle.schema_types.specs.declared.types.Schema.{Schema}
use Rattle.schema_types.specs.declared.types.Table.{Table}
use Rattle.query_types.specs.declared.types.Query.{Query}
use Rattle.query_types.specs.declared.types.Source.{Source}
use Rattle.sql_parse.specs.Reading.{IsAnswer}
use Rattle.csv_tables.specs.Files.{rows_of_file}
use Rattle.csv_tables.specs.Rows.{Row}
use Rattle.table_files.specs.FileNames.{file_name}
use Rattle.sql_meaning.specs.Answers.{answer, conjuncts_of}
use Rattle.sql_meaning.specs.Levels.{level_over}
use Rattle.sql_meaning.specs.Tables.{Tables}
use Rattle.join_steps.specs.Lists.{list_at, scans_of}
use Rattle.reduced_scans.specs.Scans.{AreReducedScans}
use Rattle.plans.specs.LeftDeep.{IsPlan}
use Rattle.plans.specs.declared.left_deep.Plan.{Plan}
use Rattle.plans.specs.Orders.{tree_of_order}
use Rattle.plans.specs.TreePlans.{IsTreePlan}
use Rattle.plans.specs.declared.bushy.BushyPlan.{BushyPlan}
use Rattle.plans.specs.declared.bushy.Join.{Join}
use Rattle.tree_rows.specs.Memory.{tree_bytes}
use Rattle.tree_rows.specs.Trees.{entries_at}
use Rattle.printed_texts.specs.Memory.{memory_text}
use Rattle.printed_texts.specs.Plans.{plan_lines}
use Rattle.printed_texts.specs.Texts.{rows_lines}
use Rattle.printed_texts.specs.TreePlans.{tree_lines}
use Rattle.safebound_words.specs.CommandLines.{AskFor}
use Rattle.safebound_words.specs.Commands.{over_query}
use Rattle.safebound_words.specs.declared.command.ListSource.{ListSource}
use Rattle.safebound_words.specs.declared.command.ListSource.TheVariants as sources
use Rattle.safebound_words.specs.declared.command.OutText.TheVariants as out_text
use Rattle.safebound_words.specs.declared.command.PlanWork.{PlanWork}
use Rattle.safebound_words.specs.declared.command.Shape.{Shape}
use Rattle.safebound_words.specs.declared.command.Shape.TheVariants as shapes
use Rattle.safebound_words.specs.declared.command.QueryTask.TheVariants as query_tasks
use Rattle.outcomes.specs.declared.status.Status.TheVariants as status
use Rattle.safebound_top.specs.Call.{Call, Grew}
use Rattle.prepared_runs.specs.Limits.{IsWithinLimit}

-- ---- the contents of the files

-- `value` has the property IsSuch, and no other value has this property
pub record IsTheOne {A : Type 0} (IsSuch : A → Type 0) (value : A) : Type 0 where
  pub is : IsSuch value
  pub only : (other : A) → IsSuch other → other ≡ value

-- the text in the file of this name declares the schema
pub record DeclaresSchema (files : Files) (name : List ℕ) (schema : Schema) : Type 0 where
  pub text : List ℕ
  pub there : file_of files name ≡ Some text
  pub declares : IsTheOne (λ s. IsSchemaOf text (Ok s)) schema

-- the text in the file of this name asks the query of a schema
pub record AsksQuery (files : Files) (name : List ℕ) (schema : Schema) (query : Query) : Type 0 where
  pub text : List ℕ
  pub there : file_of files name ≡ Some text
  pub asks : IsTheOne (λ q. IsAnswer schema text (Ok q)) query

-- the rows of a FROM entry are the rows in the file of its table
pub record AreInFile (files : Files) (schema : Schema) (query : Query) (entry : ℕ) (rows : List Row) : Type 0 where
  pub source : Source
  pub is_source : slice_get query.from entry ≡ Some source
  pub table : Table
  pub is_table : slice_get schema.tables source.table ≡ Some table
  pub bytes : List ℕ
  pub there : file_of files (file_name table) ≡ Some bytes
  pub read : rows_of_file table bytes ≡ Ok rows

-- ---- the contents of the plan text

-- the rows that are joined. For each FROM entry these are the rows for which every conjunct that names only this entry holds. With `--reduce` or
-- `--count` the lists are the largest lists of these rows in which each row has a match for each equality of its entry. A match is a row
-- with an equal value in the other entry's list
abbrev pub AreScans : ListSource → Query → Tables → List (List ℕ) → Type 0
AreScans sources.Columns query tables scans = scans ≡ scans_of query tables
AreScans sources.Keyed query tables scans = scans ≡ scans_of query tables
AreScans sources.Reduced query tables scans = AreReducedScans query tables scans
AreScans sources.Counted query tables scans = AreReducedScans query tables scans

-- A choice takes one row from the scan of each of these entries. These are the choices that satisfy every conjunct which names only these entries
abbrev pub choices_over : Query → Tables → List (List ℕ) → List ℕ → List (List ℕ)
choices_over query tables scans entries = level_over (conjuncts_of query tables) (list_at scans) entries

-- no scan has more rows than its bound
abbrev pub ScansFit : Query → List (List ℕ) → List ℕ → Type 0
ScansFit query scans bounds = (entry : ℕ) → entry < length query.from → length (list_at scans entry) ≤ slice_index bounds entry

-- an order of all entries. No scan has more rows than its bound. For each k from 0 on, the first k + 1 entries have at most as many choices as
-- `levels` says at index k. The text numbers levels from 1, so the number at index k is in the line `level` k + 1
pub record HoldsAlong (query : Query) (tables : Tables) (scans : List (List ℕ)) (plan : Plan) : Type 0 where
  pub each_entry : IsPlan (length query.from) plan
  pub scans_fit : ScansFit query scans plan.scans
  pub levels_fit : (k : ℕ) → k < length query.from
      → length (choices_over query tables scans (take (k + 1) plan.order)) ≤ slice_index plan.levels k

-- a join tree of all entries. No scan has more rows than its bound. For each inner node, the entries at its leaves have at most as many choices as
-- its bound says
pub record HoldsOver (query : Query) (tables : Tables) (scans : List (List ℕ)) (plan : BushyPlan) : Type 0 where
  pub each_entry : IsTreePlan (length query.from) plan
  pub scans_fit : ScansFit query scans plan.scans
  pub nodes_fit : (k : ℕ) (join : Join) → slice_get plan.joins k ≡ Some join
      → length (choices_over query tables scans (entries_at plan (length query.from + k))) ≤ join.bound

-- a plan with its text: an order, or with `--bushy` a join tree. With `--memory` the last line has the number of bytes that `tree_bytes` computes
-- from the plan; an order takes the bytes of its join tree. This number is at most the limit. The clause `buffers` (`KeepsItsBuffers`) says that the
-- buffers of the joins hold exactly this number of bytes. The number doesn't count memory for reading and planning
pub record PrintsOrder (limit : Option ℕ) (query : Query) (tables : Tables) (scans : List (List ℕ)) (text : List ℕ) : Type 0 where
  pub plan : Plan
  pub holds : HoldsAlong query tables scans plan
  pub within : IsWithinLimit limit (tree_bytes (tree_of_order plan))
  pub prints : text ≡ plan_lines query.from plan ++ memory_text limit (tree_bytes (tree_of_order plan))

pub record PrintsTree (limit : Option ℕ) (query : Query) (tables : Tables) (scans : List (List ℕ)) (text : List ℕ) : Type 0 where
  pub plan : BushyPlan
  pub holds : HoldsOver query tables scans plan
  pub within : IsWithinLimit limit (tree_bytes plan)
  pub prints : text ≡ tree_lines query.from plan ++ memory_text limit (tree_bytes plan)

abbrev pub PrintsPlan : Shape → Option ℕ → Query → Tables → List (List ℕ) → List ℕ → Type 0
PrintsPlan shapes.Order limit query tables scans text = PrintsOrder limit query tables scans text
PrintsPlan shapes.Tree limit query tables scans text = PrintsTree limit query tables scans text

-- ---- the contents of the rows text

-- a header, and then the rows of the answer, in any order, each as often as in the answer
pub record PrintsAnswer (query : Query) (tables : Tables) (text : List ℕ) : Type 0 where
  pub rows : List Row
  pub is_answer : IsPermutation rows (answer query tables)
  pub prints : text ≡ rows_lines query.select rows

-- ---- the promise

-- a run of the query in `query_file` over the schema in `schema_file` and the tables' files: notes grew by the text of a plan, and out by the
-- answer
pub record RanWhole (files : Files) (schema_file query_file : List ℕ) (work : PlanWork) (notes out : Growth) : Type 0 where
  pub schema : Schema
  pub declares : DeclaresSchema files schema_file schema
  pub query : Query
  pub asks : AsksQuery files query_file schema query
  pub tables : Tables
  pub rows : (entry : ℕ) → entry < length query.from → AreInFile files schema query entry (tables entry)
  pub scans : List (List ℕ)
  pub are_scans : AreScans work.source query tables scans
  pub plan_text : List ℕ
  pub plan : PrintsPlan work.terms.shape work.terms.memory query tables scans plan_text
  pub plan_written : Grew notes plan_text
  pub rows_text : List ℕ
  pub answer : PrintsAnswer query tables rows_text
  pub answer_written : Grew out rows_text

-- if the store tells its files, each call of `run` that ended with Done printed a plan and the answer (RanWhole), at any budget and accuracy, with or
-- without `--keys`. The words of `run` ask for a plan of the query in a file, and for the query's rows in out
abbrev pub Promise : Call → Type 0
Promise call = (schema_file query_file : List ℕ) (work : PlanWork) (files : Files)
    → AskFor call.words (over_query None schema_file query_file (query_tasks.Plan work)) → work.out ≡ out_text.Rows
    → call.status ≡ status.Done → call.store.files ≡ Some files
    → RanWhole files schema_file query_file work call.notes call.out
