use Rattle.prepared_runs.proofs.Runs.{bounds_hold, limits_hold, rows_are_the_answer}
use Rattle.safebound_laws.proofs.laws.run_law.Goals as goal

pub returns-clause-bounds : goal.returns-clause-bounds
returns-clause-bounds c = bounds_hold

pub returns-clause-rows : goal.returns-clause-rows
returns-clause-rows c = rows_are_the_answer

pub returns-clause-limits : goal.returns-clause-limits
returns-clause-limits c = limits_hold
