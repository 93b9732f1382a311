use Rattle.std.proofs.Common.{◌*◌, ◌+◌, ◌-◌, length}
use Rattle.berge_tree.proofs.walk.+walk.Given as goal

abbrev pub decreases-classes_at : goal.decreases-classes_at
decreases-classes_at l = (3 * l.depth + 2) * (length l.columns.now + 1) + (length l.columns.now - l.from)

abbrev pub decreases-members_at : goal.decreases-members_at
decreases-members_at l = (3 * l.depth + 1) * (length l.columns.now + 1) + (length l.columns.now - l.from)

abbrev pub decreases-classes_below : goal.decreases-classes_below
decreases-classes_below l = 3 * l.depth * (length l.columns.now + 1)
