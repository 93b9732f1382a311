use Rattle.safebound_laws.proofs.Planned.{plan_holds}
use Rattle.safebound_laws.proofs.file_plans.plans_from_written_files_hold.Goals as goal

pub returns : goal.returns
returns c = plan_holds
