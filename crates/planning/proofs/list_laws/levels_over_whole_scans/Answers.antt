use Rattle.join_steps.proofs.WholeScans.{scans_are_of_scans}
use Rattle.planning.proofs.ReducedPlans.{levels_of_scans}
use Rattle.planning.proofs.list_laws.levels_over_whole_scans.Goals as goal

pub returns-clause-lists : goal.returns-clause-lists
returns-clause-lists c = scans_are_of_scans

pub returns-clause-levels : goal.returns-clause-levels
returns-clause-levels c = levels_of_scans
