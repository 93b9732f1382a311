use Rattle.std.proofs.Common.{◌≤◌, ◌*◌, length}
use Rattle.limits.specs.Profile.{most_rows}
use Rattle.level_bounds.specs.Keys.{cell_at}
use Rattle.join_steps.specs.Lists.{lists_of}
use Rattle.reduced_scans.specs.Wiring.{AreUsesOfRows}
use Rattle.reduced_scans.proofs.wiring.add_all_uses.Given as goal

abbrev pub invariant-equalities : goal.invariant-equalities
invariant-equalities l = record {
  wired : AreUsesOfRows (lists_of l.scans) l.equalities (cell_at l.db) l.known_values l.number l.uses.items;
  known_values : length l.known_values ≤ 2 * most_rows * l.number;
  uses : length l.uses.items ≤ 2 * most_rows * l.number;
}
