use Rattle.worked_run.proofs.TwoCalls.{holds_by_bytes}
use Rattle.worked_run.proofs.statistics.plans_from_these_bytes_hold.Goals as goal

pub returns : goal.returns
returns c = holds_by_bytes
