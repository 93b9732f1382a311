use Rattle.std.proofs.Common.{◌<◌, ℕ}
use Rattle.safebound_bounds.specs.Arguments.{list_at}
use Rattle.safebound_bounds.specs.InSets.{CoversRows}
use Rattle.safebound_bounds.proofs.in_sets.cover_rows.Given as goal

abbrev pub invariant-loop-list : goal.invariant-loop-list
invariant-loop-list l = (i : ℕ) → i < l.list-index → CoversRows l.rows l.runs (list_at l.lists i)
