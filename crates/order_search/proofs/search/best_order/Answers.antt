use Rattle.std.proofs.Common.{◌≡◌, ◌-◌, ℕ, length, Vec, Global}
use Rattle.std.proofs.lemmas.Result.{IfOk-weaker}
use Rattle.order_search.specs.Orders.{IsBest, cost}
use Rattle.order_search.specs.Ways.{IsFirstLightest}
use Rattle.order_search.specs.declared.weight.Weighing.TheVariants as weight
use Rattle.order_search.proofs.BestFound.{best_found, sum_is_light}
use Rattle.order_search.proofs.search.best_order.Goals as goal

pub first_lightest-requires-clause-light : goal.first_lightest-requires-clause-light
first_lightest-requires-clause-light c =
    rw c.as_slice.ensures.value (sum_is_light c.args.bounds.now c.in_ok-sums.sums.items c.args.count c.args.least c.requires.count c.requires.small c.requires.least c.requires.bounds c.in_ok-sums.ensures.table)

pub returns-clause-best : goal.returns-clause-best
returns-clause-best c =
    IfOk-weaker c.first_lightest.result
    (λ (order : Vec ℕ Global). IsFirstLightest (weight.SumIfBoundsAtMost c.args.least) c.args.bounds.now (length c.args.bounds.now - 1) (length c.args.bounds.now - 1) order.items)
    (λ (order : Vec ℕ Global). IsBest c.args.bounds.now c.args.count order.items)
    (λ (order : Vec ℕ Global) first. (best_found c.args.bounds.now order.items c.args.count c.args.least c.requires.count c.requires.small c.requires.least c.requires.bounds first).0)
    c.first_lightest.ensures

pub returns-clause-cost : goal.returns-clause-cost
returns-clause-cost c =
    IfOk-weaker c.first_lightest.result
    (λ (order : Vec ℕ Global). IsFirstLightest (weight.SumIfBoundsAtMost c.args.least) c.args.bounds.now (length c.args.bounds.now - 1) (length c.args.bounds.now - 1) order.items)
    (λ (order : Vec ℕ Global). cost c.args.bounds.now order.items ≡ c.args.least)
    (λ (order : Vec ℕ Global) first. (best_found c.args.bounds.now order.items c.args.count c.args.least c.requires.count c.requires.small c.requires.least c.requires.bounds first).1)
    c.first_lightest.ensures
