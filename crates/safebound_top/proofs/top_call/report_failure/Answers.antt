use Rattle.std.proofs.Common.{◌∙◌, sym}
use Rattle.outcomes.proofs.StatusFacts.{ended_not_done}
use Rattle.safebound_top.proofs.top_call.report_failure.Goals as goal

pub report-requires : goal.report-requires
report-requires g c h = ended_not_done c.args.failure (sym c.from-status.ensures ∙ h)
