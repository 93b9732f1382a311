use Rattle.safebound_laws.proofs.Near.{plan_near}
use Rattle.safebound_laws.proofs.file_plans.plans_from_written_files_are_near.Goals as goal

pub returns : goal.returns
returns c = plan_near
