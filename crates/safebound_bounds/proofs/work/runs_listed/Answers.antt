use Rattle.std.proofs.Common.{ap}
use Rattle.safebound_bounds.specs.Work.{run_count_of}
use Rattle.safebound_bounds.proofs.work.runs_listed.Goals as goal

pub returns-in-Some : goal.returns-in-Some
returns-in-Some c = ap run_count_of c.in-Some.ensures

pub returns-in-None : goal.returns-in-None
returns-in-None c = ap run_count_of c.in-None.ensures
