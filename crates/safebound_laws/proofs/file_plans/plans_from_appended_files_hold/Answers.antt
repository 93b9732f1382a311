use Rattle.safebound_laws.proofs.Planned.{grown_plan_holds}
use Rattle.safebound_laws.proofs.file_plans.plans_from_appended_files_hold.Goals as goal

pub returns : goal.returns
returns c = grown_plan_holds
