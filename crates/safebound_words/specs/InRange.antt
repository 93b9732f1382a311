-- The ranges of a command's values.
use Rattle.std.specs.Prelude.{◌<◌, ◌≤◌, ⊤}
use Rattle.limits.specs.Profile.{most_accuracy}
use Rattle.safebound_words.specs.Commands.{most_budget_of}
use Rattle.safebound_words.specs.declared.command.SchemaTask.{SchemaTask}
use Rattle.safebound_words.specs.declared.command.SchemaTask.TheVariants as schema_tasks
use Rattle.safebound_words.specs.declared.command.PlanWork.{PlanWork}
use Rattle.safebound_words.specs.declared.command.QueryTask.{QueryTask}
use Rattle.safebound_words.specs.declared.command.QueryTask.TheVariants as query_tasks

-- the accuracy and the budget of a plan are in their ranges
pub record IsInRange (plan : PlanWork) : Type 0 where
  pub accuracy_least : 0 < plan.accuracy
  pub accuracy_most : plan.accuracy ≤ most_accuracy
  pub budget : plan.terms.budget ≤ most_budget_of plan.terms.shape

abbrev pub WorkHasRanges : QueryTask → Type 0
WorkHasRanges (query_tasks.Plan plan) = IsInRange plan
WorkHasRanges (query_tasks.WriteStats accuracy) = (0 < accuracy) × (accuracy ≤ most_accuracy)
WorkHasRanges (query_tasks.PlanFromStats file terms) = terms.budget ≤ most_budget_of terms.shape

abbrev pub HasRanges : SchemaTask → Type 0
HasRanges (schema_tasks.Query file work) = WorkHasRanges work
HasRanges (schema_tasks.Append rows) = ⊤
