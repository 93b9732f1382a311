use Rattle.worked_run.specs.TwoTables.{small_budget_words}
use Rattle.worked_run.proofs.Calls.{each_call_exceeds_budget}
use Rattle.worked_run.proofs.Verdicts.{small_budget_verdict}
use Rattle.worked_run.proofs.examples.refused.Goals as goal

pub returns-clause-verdict : goal.returns-clause-verdict
returns-clause-verdict c = small_budget_verdict

pub returns-clause-call : goal.returns-clause-call
returns-clause-call c = each_call_exceeds_budget small_budget_words small_budget_verdict
