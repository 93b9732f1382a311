-- A planned query with its tables and scans. The promises of a run are about this record.
use Rattle.std.specs.Prelude.{ℕ, ◌≡◌, ◌<◌, ◌≤◌, List, map, length, slice_index, IsPermutation, Option}
use Rattle.csv_tables.specs.Rows.{Row}
use Rattle.query_types.specs.declared.types.Query.{Query}
use Rattle.sql_meaning.specs.Answers.{answer, conjuncts_of, selected}
use Rattle.sql_meaning.specs.Levels.{row_in, scan}
use Rattle.sql_meaning.specs.Tables.{Tables, row_counts}
use Rattle.join_steps.specs.Lists.{list_at, list_levels}
use Rattle.reduced_scans.specs.Rounds.{reduced_of}
use Rattle.table_files.specs.EntryTables.{tables_in}
use Rattle.plans.specs.declared.bushy.BushyPlan.{BushyPlan}
use Rattle.prepared_runs.specs.Shapes.{IsShapedPlan, joined_entries, part_bound, part_count, part_rows, part_sizes, parts_over_tables}
use Rattle.safebound_words.specs.declared.command.ListSource.{ListSource}
use Rattle.safebound_words.specs.declared.command.ListSource.TheVariants as sources
use Rattle.safebound_words.specs.declared.command.OutText.{OutText}
use Rattle.safebound_words.specs.declared.command.Shape.{Shape}

-- a query, the rows of each FROM entry's table, the plan and its shape, and the source of the plan's bounds. `lists` has, for each entry, the numbers
-- of the rows that are joined. `memory` is the limit of memory, if there is one. `out` says which text goes to the stream out
pub record AcceptedQuery : Type 0 where
  pub query : Query
  pub rows : List (List Row)
  pub shape : Shape
  pub plan : BushyPlan
  pub source : ListSource
  pub lists : List (List ℕ)
  pub memory : Option ℕ
  pub out : OutText

abbrev pub tables : AcceptedQuery → Tables
tables run = tables_in run.rows

-- the numbers of the rows of an entry's scan
abbrev pub scan_rows : AcceptedQuery → ℕ → List ℕ
scan_rows run entry = list_at run.lists entry

-- how many rows each level of the plan's order has, or each inner node of its tree
abbrev pub part_counts : AcceptedQuery → List ℕ
part_counts run = part_sizes run.query (tables run) run.lists run.shape run.plan

-- the choices (one row from each scan) that satisfy every conjunct, in lexicographic order
abbrev pub joined_rows : AcceptedQuery → List (List ℕ)
joined_rows run = list_levels run.query (tables run) run.lists (joined_entries run.plan) (length (joined_entries run.plan))

-- the rows that are printed: the outputs of each choice of `joined_rows`, in the order of `joined_rows`
abbrev pub printed : AcceptedQuery → List Row
printed run = map (λ choice. selected run.query (tables run) (row_in (joined_entries run.plan) choice)) (joined_rows run)

-- each entry's list has the rows for which the entry's own conjuncts hold. Each level or inner node over the lists is the same as over complete
-- tables
pub record IsOverWholeScans (run : AcceptedQuery) : Type 0 where
  pub scans : (entry : ℕ) → entry < length run.query.from
      → scan_rows run entry ≡ scan (conjuncts_of run.query (tables run)) (row_counts (tables run)) entry
  pub parts : (k : ℕ) → k < part_count run.shape run.plan
      → part_rows run.query (tables run) run.lists run.shape run.plan k ≡ parts_over_tables run.query (tables run) run.shape run.plan k

-- the lists are the reduced scans: the largest lists in which each row has a match across each equality (law `reduced_scans_are_by_rounds` of
-- reduced_scans). Each list has exactly as many rows as the plan says
pub record IsOverReducedScans (run : AcceptedQuery) : Type 0 where
  pub scans : run.lists ≡ reduced_of run.query (tables run)
  pub exact : (entry : ℕ) → entry < length run.query.from → slice_index run.plan.scans entry ≡ length (scan_rows run entry)

-- the plan has each FROM entry once. No scan has more rows than its bound, and no level of the order, or inner node of the tree, has more
-- rows than its bound. Whether the scans are whole or reduced depends on the source of the bounds
pub record BoundsHold (run : AcceptedQuery) : Type 0 where
  pub plan : IsShapedPlan (length run.query.from) run.shape run.plan
  pub scans : (entry : ℕ) → entry < length run.query.from → length (scan_rows run entry) ≤ slice_index run.plan.scans entry
  pub parts : (k : ℕ) → k < part_count run.shape run.plan → length (part_rows run.query (tables run) run.lists run.shape run.plan k) ≤ part_bound run.shape run.plan k
  pub of_columns : run.source ≡ sources.Columns → IsOverWholeScans run
  pub of_keyed : run.source ≡ sources.Keyed → IsOverWholeScans run
  pub of_reduced : run.source ≡ sources.Reduced → IsOverReducedScans run
  pub of_counted : run.source ≡ sources.Counted → IsOverReducedScans run

-- the printed rows are the answer of the query, each as often as in the answer
abbrev pub RowsAreTheAnswer : AcceptedQuery → Type 0
RowsAreTheAnswer run = IsPermutation (printed run) (answer run.query (tables run))
