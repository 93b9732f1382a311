-- Commands, as they are made from the words and flags of a command line.
use Rattle.std.specs.Prelude.{ℕ, Bool, false, true, codes, Option, None, Some}
use Rattle.limits.specs.Profile.{most_budget, most_rows, default_accuracy, default_budget}
use Rattle.safebound_words.specs.Words.{Word}
use Rattle.safebound_words.specs.declared.command.SchemaTask.TheVariants as schema_tasks
use Rattle.safebound_words.specs.declared.command.Command.{Command}
use Rattle.safebound_words.specs.declared.command.ListSource.{ListSource}
use Rattle.safebound_words.specs.declared.command.ListSource.TheVariants as sources
use Rattle.safebound_words.specs.declared.command.NewRows.{NewRows}
use Rattle.safebound_words.specs.declared.command.OutText.{OutText}
use Rattle.safebound_words.specs.declared.command.OutText.TheVariants as out_text
use Rattle.safebound_words.specs.declared.command.PlanTerms.{PlanTerms}
use Rattle.safebound_words.specs.declared.command.Shape.{Shape}
use Rattle.safebound_words.specs.declared.command.Shape.TheVariants as shapes
use Rattle.safebound_words.specs.declared.command.QueryTask.{QueryTask}
use Rattle.safebound_words.specs.declared.command.QueryTask.TheVariants as query_tasks

-- the command to do `work` on the query in a file, over the schema in a file. If `shop` is Some n, both files are generated, for the example
-- shop number n
abbrev pub over_query : Option ℕ → Word → Word → QueryTask → Command
over_query shop schema query work = record { schema_file = schema; schema_task = schema_tasks.Query query work; shop = shop }

-- the command to append new rows of a table to a statistics file
abbrev pub append_command : Word → NewRows → Command
append_command schema rows = record { schema_file = schema; schema_task = schema_tasks.Append rows; shop = None }

-- the source of bounds, from the flags `--reduce`, `--keys` and `--count`. A command has at most one of these flags. Without them the source is the
-- statistics of whole columns
abbrev pub source_by : Bool → Bool → Bool → ListSource
source_by false false false = sources.Columns
source_by false true false = sources.Keyed
source_by true keys false = sources.Reduced
source_by reduce keys true = sources.Counted

-- the shape of a plan: a tree with the flag `--bushy`, and an order without it
abbrev pub shape_by : Bool → Shape
shape_by false = shapes.Order
shape_by true = shapes.Tree

-- the terms of a plan, from a budget, the flag `--bushy` and the limit of memory, if there is one
abbrev pub terms_by : ℕ → Bool → Option ℕ → PlanTerms
terms_by budget bushy memory = record { budget = budget; shape = shape_by bushy; memory = memory }

-- planning over tables. The arguments are the text for `out`, a budget, an accuracy, a source of bounds, whether `--bushy` is given, and the limit of
-- memory, if there is one
abbrev pub plan_work : OutText → ℕ → ℕ → ListSource → Bool → Option ℕ → QueryTask
plan_work out budget accuracy source bushy memory =
    query_tasks.Plan (record { terms = terms_by budget bushy memory; accuracy = accuracy; source = source; out = out })

-- `plan_work` with the source of bounds that the flags `--reduce` and `--keys` ask for, without `--count`
abbrev pub plan_by : OutText → ℕ → ℕ → Bool → Bool → Bool → Option ℕ → QueryTask
plan_by out budget accuracy reduce bushy keys memory = plan_work out budget accuracy (source_by reduce keys false) bushy memory

-- `demo` does what `audit schema.sql query.sql` does, over the generated files of an example shop
abbrev pub demo_of : ℕ → Command
demo_of number = over_query (Some number) (codes "schema.sql") (codes "query.sql")
    (plan_by out_text.Audit default_budget default_accuracy false false false None)

-- the greatest budget of a plan. For a tree it is the most rows that a table may have
abbrev pub most_budget_of : Shape → ℕ
most_budget_of shapes.Order = most_budget
most_budget_of shapes.Tree = most_rows
