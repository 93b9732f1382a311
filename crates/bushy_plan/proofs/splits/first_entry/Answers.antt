use Rattle.std.specs.Int.{w64}
use Rattle.bushy_plan.proofs.Splitting.{first_by_zeros}
use Rattle.bushy_plan.proofs.splits.first_entry.Goals as goal

pub returns : goal.returns
returns c = first_by_zeros w64 c.args.set c.requires c.ranges.set.fits
