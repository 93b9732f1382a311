use Rattle.std.proofs.Common.{◌≡◌, ◌≤◌, drop, length, map}
use Rattle.filtered_lists.specs.Ranges.{intersection_of}
use Rattle.predicate_bounds.specs.Steps.{range_of}
use Rattle.predicate_bounds.proofs.ranges.intersection_of.Given as goal

abbrev pub invariant-loop-i : goal.invariant-loop-i
invariant-loop-i l = (l.i ≤ length l.ranges) × (range_of l.one ≡ intersection_of (drop l.i (map range_of l.ranges)) l.column)

abbrev pub decreases-loop-i : goal.decreases-loop-i
decreases-loop-i l = l.i
