use Rattle.worked_run.specs.TwoTables.{small_memory_words}
use Rattle.worked_run.proofs.Calls.{each_call_exceeds_limit}
use Rattle.worked_run.proofs.Verdicts.{small_memory_verdict}
use Rattle.worked_run.proofs.examples.above_its_limit.Goals as goal

pub returns-clause-verdict : goal.returns-clause-verdict
returns-clause-verdict c = small_memory_verdict

pub returns-clause-call : goal.returns-clause-call
returns-clause-call c = each_call_exceeds_limit small_memory_words small_memory_verdict
