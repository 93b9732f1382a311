use Rattle.std.proofs.Common.{arith}
use Rattle.level_bounds.proofs.SmallTriangle.{triangle_bounded, triangle_compressed, triangle_each, triangle_order, triangle_scan_1}
use Rattle.level_bounds.proofs.examples.instances.Goals as goal

pub returns-clause-scans : goal.returns-clause-scans
returns-clause-scans c = triangle_scan_1

pub returns-clause-compressed : goal.returns-clause-compressed
returns-clause-compressed c = triangle_compressed

pub returns-clause-bounds : goal.returns-clause-bounds
returns-clause-bounds c = triangle_bounded

pub returns-clause-each : goal.returns-clause-each
returns-clause-each c = triangle_each

pub returns-clause-order : goal.returns-clause-order
returns-clause-order c = triangle_order

pub returns-clause-texts : goal.returns-clause-texts
returns-clause-texts c = λ i j d less within same. omega (arith, within)
