use Rattle.std.proofs.Common.{◌≡◌, ◌-◌, ◌≤◌, take}
use Rattle.plans.specs.Orders.{joins_of_order}
use Rattle.plans.proofs.orders.write_joins.Given as goal

abbrev pub invariant-levels : goal.invariant-levels
invariant-levels l = record {
  not_empty : 1 ≤ l.k;
  written : take (l.k - 1) l.into ≡ joins_of_order l.n (take l.k l.order) (take l.k l.levels);
}
