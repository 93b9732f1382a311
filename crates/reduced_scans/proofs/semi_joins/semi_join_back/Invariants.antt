use Rattle.std.proofs.Common.{◌≤◌, length}
use Rattle.level_bounds.specs.Keys.{cell_at}
use Rattle.join_steps.specs.Lists.{lists_of}
use Rattle.reduced_scans.specs.Lists.{AreRowLists}
use Rattle.reduced_scans.specs.SemiJoins.{StaySifted}
use Rattle.reduced_scans.proofs.semi_joins.semi_join_back.Given as goal

abbrev pub invariant-equalities : goal.invariant-equalities
invariant-equalities l = record {
  within : l.remaining ≤ length l.equalities;
  lists : AreRowLists l.db l.lists;
  stay : StaySifted (cell_at l.db) l.equalities (lists_of l.initial.lists) (lists_of l.lists);
}

abbrev pub decreases-equalities : goal.decreases-equalities
decreases-equalities l = l.remaining
