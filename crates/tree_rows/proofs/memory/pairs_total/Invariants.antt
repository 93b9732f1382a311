use Rattle.std.proofs.Common.{◌≡◌, ◌*◌, ◌^◌, ◌≤◌, map, sum, take}
use Rattle.tree_rows.proofs.memory.pairs_total.Given as goal

abbrev pub invariant-joins : goal.invariant-joins
invariant-joins l = record {
  value : l.total ≡ sum (map (λ join. join.bound) (take l.join-index l.joins));
  small : l.total ≤ 2 ^ 64 * l.join-index;
}
