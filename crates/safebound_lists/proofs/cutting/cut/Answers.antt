use Rattle.safebound_lists.proofs.Small.{cut_fits}
use Rattle.safebound_lists.proofs.cutting.cut.Goals as goal

pub write_runs-requires : goal.write_runs-requires
write_runs-requires c = cut_fits c.in_ok-list.list c.in_ok-few.few _ c.in_ok-list.ensures.small c.in_ok-few.ensures.value
