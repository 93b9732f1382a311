use Rattle.std.proofs.Common.{ℕ, ◌-◌, length, get_or, subst, sym, arith}
use Rattle.std.proofs.lemmas.List.{get_or_read}
use Rattle.std.proofs.lemmas.Nat.{pow_pos}
use Rattle.bushy_plan.specs.BestTree.{IsLeastCost}
use Rattle.bushy_plan.proofs.Found.{least_cost_alone, least_cost_from}
use Rattle.bushy_plan.proofs.search.least_cost.Goals as goal

pub returns-then-count-eq1 : goal.returns-then-count-eq1
returns-then-count-eq1 c = subst (λ (n : ℕ). IsLeastCost c.args.bounds.now n (get_or c.args.bounds.now 1 0)) (sym c.if-count-eq1.true) (least_cost_alone c.args.bounds.now)

pub returns : goal.returns
returns c =
    least_cost_from c.args.bounds.now c.in_ok-costs.costs.items c.args.count c.index.result.now (omega arith) c.requires.bounds c.in_ok-costs.ensures.table
    (get_or_read c.in_ok-costs.costs.items (length c.args.bounds.now - 1) c.index.result.now (omega (arith, c.in_ok-costs.ensures.filled, c.requires.bounds, pow_pos c.args.count)) c.index.ensures 0)
