use Rattle.std.proofs.Common.{◌≤◌, ◌*◌}
use Rattle.limits.specs.Profile.{most_rows}
use Rattle.reduced_scans.proofs.wiring.count_uses.Given as goal

abbrev pub invariant-equalities : goal.invariant-equalities
invariant-equalities l = l.count ≤ 2 * most_rows * l.edge-index
