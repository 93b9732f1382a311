-- The tables, rows and plans that the small files give.
use Rattle.std.specs.Prelude.{ℕ, List, [], ◌∷◌, map, pos, Option, None}
use Rattle.appended_stats.specs.Appended.{file_after}
use Rattle.csv_tables.specs.Rows.{Row}
use Rattle.csv_tables.specs.Values.{Int}
use Rattle.stats_file_of_query.specs.Pairs.{pair_in_table}
use Rattle.plans.specs.Examples.{plan_of}
use Rattle.plans.specs.TreeExamples.{join, plan_of as tree_of}
use Rattle.plans.specs.Orders.{tree_of_order}
use Rattle.query_bounds.specs.Examples.{two_table_query}
use Rattle.planning.specs.Examples.{r_column, s_column}
use Rattle.stats_file.specs.declared.types.StatsFile.{StatsFile}
use Rattle.stats_file.specs.declared.types.TableStats.{TableStats}
use Rattle.table_files.specs.EntryTables.{tables_in}
use Rattle.table_files.specs.Examples.{two_tables}
use Rattle.prepared_runs.specs.AcceptedQuery.{AcceptedQuery}
use Rattle.prepared_runs.specs.RunOutcome.{Appended, StatsMade, RunOutcome}
use Rattle.safebound_words.specs.declared.command.Shape.TheVariants as shapes
use Rattle.safebound_words.specs.declared.command.ListSource.{ListSource}
use Rattle.safebound_words.specs.declared.command.ListSource.TheVariants as sources
use Rattle.safebound_words.specs.declared.command.OutText.{OutText}
use Rattle.safebound_words.specs.declared.command.OutText.TheVariants as out_text

-- the rows of a table with one column of numbers
abbrev pub rows_of : List ℕ → List Row
rows_of column = map (λ n. Int (pos n) ∷ []) column

-- the rows of each FROM entry
abbrev pub small_rows : List (List Row)
small_rows = rows_of r_column ∷ rows_of s_column ∷ []

-- the row numbers that the scan of each FROM entry has: all rows, since no conjunct names only one entry
abbrev pub small_lists : List (List ℕ)
small_lists = (0 ∷ 1 ∷ 2 ∷ 3 ∷ 4 ∷ 5 ∷ []) ∷ (0 ∷ 1 ∷ 2 ∷ 3 ∷ 4 ∷ []) ∷ []

-- The accepted query with a plan in the order S, R. The scans have bounds 6 and 5, the levels 5 and 12. `memory` is the limit of memory, if there is
-- one
abbrev pub two_tables_run : OutText → Option ℕ → AcceptedQuery
two_tables_run out memory = record {
  query = two_table_query;
  rows = small_rows;
  shape = shapes.Order;
  plan = tree_of_order (plan_of (1 ∷ 0 ∷ []) (6 ∷ 5 ∷ []) (5 ∷ 12 ∷ []));
  source = sources.Columns;
  lists = small_lists;
  memory = memory;
  out = out;
}

-- the accepted query with a plan as a tree: the node over R and S has bound 12
abbrev pub two_tables_tree : OutText → Option ℕ → AcceptedQuery
two_tables_tree out memory = record {
  query = two_table_query;
  rows = small_rows;
  shape = shapes.Tree;
  plan = tree_of (join 0 1 12 ∷ []) (6 ∷ 5 ∷ []) 12;
  source = sources.Columns;
  lists = small_lists;
  memory = memory;
  out = out;
}

-- the row numbers that remain after semi-joins: those of the rows with value 1
abbrev pub reduced_lists : List (List ℕ)
reduced_lists = (0 ∷ 1 ∷ 2 ∷ []) ∷ (0 ∷ 1 ∷ []) ∷ []

-- The accepted query over the rows that remain after semi-joins, in the order S, R. The scans have bounds 3 and 2, the levels 2 and 6. Degree lists
-- and counting give the same bounds
abbrev pub two_tables_reduced : ListSource → AcceptedQuery
two_tables_reduced source = record {
  query = two_table_query;
  rows = small_rows;
  shape = shapes.Order;
  plan = tree_of_order (plan_of (1 ∷ 0 ∷ []) (3 ∷ 2 ∷ []) (2 ∷ 6 ∷ []));
  source = source;
  lists = reduced_lists;
  memory = None;
  out = out_text.Rows;
}

-- ---- statistics

-- the statistics of a table at accuracy 1: its number of rows, and its only column as filter column and joined column
abbrev pub section : ℕ → ℕ → TableStats
section table rows = record { table = table; rows = rows; pairs = pair_in_table (tables_in small_rows) 1 table 0 0 ∷ [] }

abbrev pub small_stats : StatsFile
small_stats = record { accuracy = 1; tables = section 0 6 ∷ section 1 5 ∷ [] }

-- the outcome of `stats`, and that of `append` after the rows 1 and 4 are appended to R
abbrev pub small_stats_file : RunOutcome
small_stats_file = StatsMade (record { schema = two_tables; query = two_table_query; rows = small_rows; file = small_stats })

abbrev pub small_appended : RunOutcome
small_appended = Appended (record { schema = two_tables; table = 0; rows = rows_of (1 ∷ 4 ∷ []); file = file_after small_stats 0 (rows_of (1 ∷ 4 ∷ [])) })
