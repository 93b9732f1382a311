use Rattle.safebound_lists.proofs.Small.{lesser_fits}
use Rattle.safebound_lists.proofs.comparing.lesser_of.Goals as goal

pub write_runs-requires : goal.write_runs-requires
write_runs-requires c = lesser_fits c.in_ok-list.list _ c.in_ok-both.both c.in_ok-list.ensures.small c.in_ok-both.ensures.value
