use Rattle.std.proofs.Common.{◌-◌, length}
use Rattle.order_search.proofs.ReadingOff.{NoneBeginsBefore}
use Rattle.order_search.proofs.way.next_entry.Given as goal

abbrev pub invariant-entries : goal.invariant-entries
invariant-entries l = NoneBeginsBefore l.weight l.bounds l.table l.count (length l.bounds - 1) l.left l.entry

abbrev pub decreases-entries : goal.decreases-entries
decreases-entries l = l.count - l.entry
