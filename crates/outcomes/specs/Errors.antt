-- Each error of a reader or of the planner, as a refusal and as a failure.
--
-- An error may be `NoMemory`, which isn't a refusal. For `NoMemory` the functions to `Refusal` give `Usage`. It never reaches the verdict, since no
-- definition gives `NoMemory` (law `definitions_never_give_no_memory` of safebound_laws).
use Rattle.std.specs.Prelude.{ℕ}
use Rattle.schema_types.specs.declared.errors.LimitKind.TheVariants as limit
use Rattle.schema_types.specs.declared.errors.SchemaError.{SchemaError}
use Rattle.schema_types.specs.declared.errors.SchemaError.TheVariants as schema
use Rattle.query_names.specs.declared.errors.QueryError.{QueryError}
use Rattle.query_names.specs.declared.errors.QueryError.TheVariants as query
use Rattle.order_search.specs.declared.refusal.PlanError.{PlanError}
use Rattle.order_search.specs.declared.refusal.PlanError.TheVariants as plan
use Rattle.csv_tables.specs.declared.types.TableError.{TableError}
use Rattle.csv_tables.specs.declared.types.TableError.TheVariants as table
use Rattle.outcomes.specs.declared.failure.Failure.{Failure}
use Rattle.outcomes.specs.declared.failure.Failure.TheVariants as failure
use Rattle.outcomes.specs.declared.names.FileId.TheVariants as file
use Rattle.outcomes.specs.declared.refusal.QueryCause.TheVariants as query_cause
use Rattle.outcomes.specs.declared.refusal.Refusal.{Refusal}
use Rattle.outcomes.specs.declared.refusal.Refusal.TheVariants as refusal
use Rattle.outcomes.specs.declared.refusal.SchemaCause.TheVariants as schema_cause
use Rattle.outcomes.specs.declared.refusal.StatsCause.TheVariants as stats_cause
use Rattle.outcomes.specs.declared.refusal.TableCause.TheVariants as table_cause
use Rattle.stats_file.specs.declared.types.StatsError.{StatsError}
use Rattle.stats_file.specs.declared.types.StatsError.TheVariants as stats

abbrev pub schema_refusal : SchemaError → Refusal
schema_refusal (schema.Syntax at) = refusal.Schema schema_cause.Syntax at
schema_refusal (schema.Name at) = refusal.Schema schema_cause.Name at
schema_refusal (schema.Nullable at) = refusal.Schema schema_cause.Nullable at
schema_refusal (schema.Limit which found) = refusal.Limit which file.Schema found
schema_refusal schema.NoMemory = refusal.Usage

abbrev pub query_refusal : QueryError → Refusal
query_refusal (query.Syntax at) = refusal.Query query_cause.Syntax at
query_refusal (query.Name at) = refusal.Query query_cause.Name at
query_refusal (query.Kind at) = refusal.Query query_cause.Kind at
query_refusal (query.Limit which found) = refusal.Limit which file.Query found
query_refusal query.NoMemory = refusal.Usage

-- the refusal of a table's file. `number` is the table's number in the schema
abbrev pub table_refusal : ℕ → TableError → Refusal
table_refusal number (table.Utf8 at) = refusal.Table number (table_cause.Utf8 at)
table_refusal number (table.Header column) = refusal.Table number (table_cause.Header column)
table_refusal number (table.Width row found) = refusal.Table number (table_cause.Width row found)
table_refusal number (table.Field row column) = refusal.Table number (table_cause.Field row column)
table_refusal number (table.Key row earlier) = refusal.Table number (table_cause.Key row earlier)
table_refusal number (table.Limit found) = refusal.Limit limit.Rows (file.Table number) found
table_refusal number table.NoMemory = refusal.Usage

-- the refusal of a statistics file, at one of its lines
abbrev pub stats_refusal : StatsError → Refusal
stats_refusal (stats.Syntax line) = refusal.Stats stats_cause.Syntax line
stats_refusal (stats.Rule line) = refusal.Stats stats_cause.Rule line
stats_refusal stats.NoMemory = refusal.Usage

-- the refusal of a plan
abbrev pub plan_refusal : PlanError → Refusal
plan_refusal (plan.Budget least) = refusal.Budget least
plan_refusal plan.PastBits = refusal.PastBits
plan_refusal plan.NoMemory = refusal.Usage

abbrev pub schema_failure : SchemaError → Failure
schema_failure schema.NoMemory = failure.NoMemory
schema_failure e = failure.Refused (schema_refusal e)

abbrev pub query_failure : QueryError → Failure
query_failure query.NoMemory = failure.NoMemory
query_failure e = failure.Refused (query_refusal e)

abbrev pub stats_failure : StatsError → Failure
stats_failure stats.NoMemory = failure.NoMemory
stats_failure e = failure.Refused (stats_refusal e)

abbrev pub plan_failure : PlanError → Failure
plan_failure plan.NoMemory = failure.NoMemory
plan_failure e = failure.Refused (plan_refusal e)

abbrev pub table_failure : ℕ → TableError → Failure
table_failure number table.NoMemory = failure.NoMemory
table_failure number e = failure.Refused (table_refusal number e)
