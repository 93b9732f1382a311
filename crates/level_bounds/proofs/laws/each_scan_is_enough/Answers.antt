use Rattle.level_bounds.proofs.EachScan.{scans_bounded_if_each}
use Rattle.level_bounds.proofs.laws.each_scan_is_enough.Goals as goal

pub returns : goal.returns
returns c = scans_bounded_if_each
