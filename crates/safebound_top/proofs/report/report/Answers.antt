use Rattle.safebound_top.proofs.TextSteps.{status_told}
use Rattle.safebound_top.proofs.report.report.Goals as goal

pub returns-in-Ok : goal.returns-in-Ok
returns-in-Ok g c = status_told _ _ _ c.in-Ok.ensures

pub returns-in-Err : goal.returns-in-Err
returns-in-Err g c = status_told _ _ _ c.in-Err.ensures
