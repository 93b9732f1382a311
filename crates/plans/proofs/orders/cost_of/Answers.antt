use Rattle.std.proofs.Common.{max, take, get_or, ap, sym, ◌∙◌}
use Rattle.std.proofs.lemmas.List.{take_more}
use Rattle.plans.specs.declared.bushy.Join.{Join}
use Rattle.plans.specs.Orders.{greatest_bound}
use Rattle.plans.proofs.Building.{greatest_more}
use Rattle.plans.proofs.orders.cost_of.Goals as goal

pub joins-preserved : goal.joins-preserved
joins-preserved c =
    let joins = c.args.joins.now in
    let join : Join = get_or joins c.joins.join-index (record { left = 0; right = 0; bound = 0 }) in
    c.max-cost.ensures ∙ ap (max join.bound) c.joins.invariant ∙ sym (greatest_more (take c.joins.join-index joins) join)
    ∙ ap greatest_bound (sym (take_more joins c.joins.join-index (record { left = 0; right = 0; bound = 0 }) c.joins-test.true))
