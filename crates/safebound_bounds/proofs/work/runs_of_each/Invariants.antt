use Rattle.std.proofs.Common.{◌≡◌, ◌<◌, ◌^◌, ℕ, get_or, map, take}
use Rattle.safebound_bounds.specs.Work.{runs_joined}
use Rattle.safebound_bounds.proofs.work.runs_of_each.Given as goal

abbrev pub invariant-loop-edge : goal.invariant-loop-edge
invariant-loop-edge l = record {
  are : l.each ≡ map (runs_joined l.lists) (take l.edge-index l.edges);
  few : (i : ℕ) → get_or l.each i 0 < 2 ^ 65;
}
