use Rattle.std.proofs.Common.{◌≡◌, ◌*◌, ◌^◌, ◌≤◌, map, sum, take}
use Rattle.reserve_plan.specs.Memory.{row_chain_bytes}
use Rattle.tree_rows.specs.Rooms.{right_bounds_in}
use Rattle.tree_rows.proofs.memory.chains_total.Given as goal

abbrev pub invariant-joins : goal.invariant-joins
invariant-joins l = record {
  value : l.total ≡ sum (map row_chain_bytes (right_bounds_in l.scans l.joins (take l.join-index l.joins)));
  small : l.total ≤ 2 ^ 69 * l.join-index;
}
