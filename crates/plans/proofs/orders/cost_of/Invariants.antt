use Rattle.std.proofs.Common.{◌≡◌, take}
use Rattle.plans.specs.Orders.{greatest_bound}
use Rattle.plans.proofs.orders.cost_of.Given as goal

abbrev pub invariant-joins : goal.invariant-joins
invariant-joins l = l.cost ≡ greatest_bound (take l.join-index l.joins)
