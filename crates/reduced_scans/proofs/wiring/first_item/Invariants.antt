use Rattle.std.proofs.Common.{◌≡◌, ◌≤◌, ◌*◌}
use Rattle.limits.specs.Profile.{most_rows}
use Rattle.join_steps.specs.Lists.{lists_of}
use Rattle.reduced_scans.specs.Wiring.{first_item}
use Rattle.reduced_scans.proofs.wiring.first_item.Given as goal

abbrev pub invariant-lists : goal.invariant-lists
invariant-lists l = record {
  first : l.first ≡ first_item (lists_of l.scans) l.k;
  few : l.first ≤ most_rows * l.k;
}
