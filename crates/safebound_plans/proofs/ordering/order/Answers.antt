use Rattle.std.proofs.Common.{◌≡◌, ◌<◌, ◌^◌, length, ap, sym, ◌∙◌, subst, arith}
use Rattle.std.proofs.lemmas.List.{length-map}
use Rattle.plans.specs.LeftDeep.{IsPlan}
use Rattle.order_search.specs.declared.refusal.PlanError.TheVariants as plan_error
use Rattle.safebound_plans.specs.Orders.{IsBestOrder}
use Rattle.safebound_plans.specs.Bits.{in_128_bits}
use Rattle.safebound_plans.proofs.Best.{best_order, order_cause, order_fits}
use Rattle.safebound_plans.proofs.ordering.order.Goals as goal

pub choose-requires : goal.choose-requires
choose-requires c = record {
  not_empty = omega (arith, c.in-Some.ensures.some, c.in_ok-scans.ensures);
  within_limit = omega (arith, c.in-Some.ensures.few, c.in_ok-scans.ensures);
  bounds = ap length c.in_ok-wide.ensures ∙ length-map c.args.bounds.now in_128_bits ∙ c.in-Some.ensures.sets ∙ ap (λ n. 2 ^ n) (sym c.in_ok-scans.ensures);
  budget = omega arith;
}

pub write_levels-requires : goal.write_levels-requires
write_levels-requires c =
    let all : length c.in-Ok.plan.order ≡ length c.in_ok-scans.scans = c.in-Ok.ensures.plan.order.all in
    record {
      plan = subst (λ n. IsPlan n c.in-Ok.plan) (sym all) c.in-Ok.ensures.plan;
      room = omega (arith, all, c.in_ok-scans.ensures);
    }

pub returns-in-Ok-clause-done : goal.returns-in-Ok-clause-done
returns-in-Ok-clause-done c =
    subst (IsBestOrder c.args.bounds.now c.args.budget c.args.into.now c.write_levels.new.into) (sym c.from-in-Ok.ensures)
    (best_order c.args.bounds.now c.in_ok-wide.wide c.in-Some.entries (length c.in_ok-scans.scans) c.args.budget c.in_ok-wide.ensures c.in_ok-scans.ensures
    c.in-Ok.plan.order c.in-Ok.plan.levels c.args.into.now c.write_levels.new.into (record { sets = c.in-Some.ensures; within = omega arith })
    c.in-Ok.ensures.best c.in-Ok.ensures.within c.in-Ok.ensures.levels c.write_levels.ensures)

pub overflow_cast-result : goal.overflow_cast-result
overflow_cast-result c =
    let refused = rw c.in-Err-Budget.field-0-is at c.in-Err-Budget.ensures.refused in
    let fits : c.in-Err-Budget.least < 2 ^ 64 =
    order_fits c.args.bounds.now c.in_ok-wide.wide c.in-Some.entries (length c.in_ok-scans.scans) c.args.budget c.in_ok-wide.ensures c.in_ok-scans.ensures
    (λ k. omega (arith, c.type_inv.bounds k)) c.in-Err-Budget.least refused in
    omega (arith, fits)

pub returns-in-Err-Budget-clause-refused : goal.returns-in-Err-Budget-clause-refused
returns-in-Err-Budget-clause-refused c =
    let refused = rw c.in-Err-Budget.field-0-is at c.in-Err-Budget.ensures.refused in (
      c.in-Some.entries,
      record { sets = c.in-Some.ensures; within = omega arith },
      omega arith,
      order_cause c.args.bounds.now c.in_ok-wide.wide c.in-Some.entries (length c.in_ok-scans.scans) c.args.budget c.in_ok-wide.ensures c.in_ok-scans.ensures
          (plan_error.Budget c.in-Err-Budget.least) refused,
    )

pub returns-in-Err-PastBits-clause-refused : goal.returns-in-Err-PastBits-clause-refused
returns-in-Err-PastBits-clause-refused c =
    let refused = rw c.in-Err-PastBits.field-0-is at c.in-Err-PastBits.ensures.refused in (
      c.in-Some.entries,
      record { sets = c.in-Some.ensures; within = omega arith },
      omega arith,
      order_cause c.args.bounds.now c.in_ok-wide.wide c.in-Some.entries (length c.in_ok-scans.scans) c.args.budget c.in_ok-wide.ensures c.in_ok-scans.ensures
          plan_error.PastBits refused,
    )
