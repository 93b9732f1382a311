use Rattle.prepared_runs.proofs.ShapeFacts.{is_plan_of_its_scans}
use Rattle.prepared_runs.proofs.shapes.reserve_room.Goals as goal

pub reserve_bushy-requires : goal.reserve_bushy-requires
reserve_bushy-requires c = record { plan = is_plan_of_its_scans _ c.args.plan c.requires.plan.1.for_each_entry; small = c.requires.plan.1.small }
