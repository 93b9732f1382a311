use Rattle.safebound_laws.proofs.Near.{plan_of_tables}
use Rattle.safebound_laws.proofs.file_plans.plans_from_written_files_are_those_of_the_tables.Goals as goal

pub returns : goal.returns
returns c = plan_of_tables
