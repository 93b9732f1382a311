use Rattle.std.proofs.Common.{◌-◌, length}
use Rattle.order_search.proofs.ReadingOff.{ReadOff}
use Rattle.order_search.proofs.way.first_lightest.Given as goal

abbrev pub invariant-loop-left : goal.invariant-loop-left
invariant-loop-left l = ReadOff l.most l.bounds l.table (length l.bounds - 1) l.left l.order.items

abbrev pub decreases-loop-left : goal.decreases-loop-left
decreases-loop-left l = l.left
