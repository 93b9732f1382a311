use Rattle.std.proofs.Common.{◌≡◌, ℕ, ◌-◌, ◌^◌, List, length, subst, ap, arith}
use Rattle.plans.specs.declared.bushy.Join.{Join}
use Rattle.bushy_plan.specs.declared.weight.Weighing.TheVariants as weight
use Rattle.bushy_plan.specs.PlanTrees.{IsTreeOver}
use Rattle.bushy_plan.specs.Splits.{AppendsFirstLightest}
use Rattle.bushy_plan.proofs.Found.{joins_of_best, some_of_all, sum_is_light}
use Rattle.bushy_plan.proofs.Numbering.{count_of_all}
use Rattle.bushy_plan.proofs.search.best_joins.Goals as goal

pub push_joins-requires-clause-not_empty : goal.push_joins-requires-clause-not_empty
push_joins-requires-clause-not_empty c = omega (arith, c.requires.bounds, some_of_all c.args.count c.requires.not_empty)

pub push_joins-requires-clause-light : goal.push_joins-requires-clause-light
push_joins-requires-clause-light c =
    rw c.as_slice.ensures.value
    (sum_is_light c.args.bounds.now c.in_ok-sums.sums.items c.args.count c.args.least c.requires.not_empty c.requires.count c.requires.small c.requires.least c.requires.bounds c.in_ok-sums.ensures.table)

pub push_joins-requires-clause-numbers : goal.push_joins-requires-clause-numbers
push_joins-requires-clause-numbers c tree is_tree =
    let last : length c.args.bounds.now - 1 ≡ 2 ^ c.args.count - 1 = omega (arith, c.requires.bounds) in
    omega (arith, c.requires.count, ap (length {A = Join}) c.new-joins.ensures.items, count_of_all c.args.count tree (subst (λ (k : ℕ). IsTreeOver k tree) last is_tree))

pub returns : goal.returns
returns c =
    joins_of_best c.args.bounds.now c.args.count c.args.least c.in_ok-_root._root c.push_joins.new.joins.items c.requires.not_empty c.requires.count c.requires.small c.requires.least c.requires.bounds
    (subst (λ (old : List Join). AppendsFirstLightest (weight.SumIfBoundsAtMost c.args.least) c.args.bounds.now c.args.count (length c.args.bounds.now - 1) old c.push_joins.new.joins.items c.in_ok-_root._root)
    c.new-joins.ensures.items c.in_ok-_root.ensures)
