use Rattle.std.proofs.Common.{◌<◌, ◌^◌, length, ap, sym, ◌∙◌, arith}
use Rattle.std.proofs.lemmas.List.{length-map}
use Rattle.bushy_plan.proofs.Whole.{joins_counted}
use Rattle.order_search.specs.declared.refusal.PlanError.TheVariants as plan_error
use Rattle.safebound_plans.specs.Bits.{in_128_bits}
use Rattle.safebound_plans.proofs.Best.{best_tree, tree_cause, tree_fits}
use Rattle.safebound_plans.proofs.shaping.tree.Goals as goal

pub choose_bushy-requires : goal.choose_bushy-requires
choose_bushy-requires c = record {
  not_empty = omega (arith, c.in-Some.ensures.some, c.in_ok-scans.ensures);
  within_limit = omega (arith, c.in-Some.ensures.few, c.in_ok-scans.ensures);
  bounds = ap length c.in_ok-wide.ensures ∙ length-map c.args.bounds.now in_128_bits ∙ c.in-Some.ensures.sets ∙ ap (λ n. 2 ^ n) (sym c.in_ok-scans.ensures);
  budget = omega arith;
}

pub write_joins-requires : goal.write_joins-requires
write_joins-requires c =
    let joins = joins_counted c.in_ok-wide.wide (length c.in_ok-scans.scans) c.in-Ok.plan.cost c.in-Ok.plan.joins c.in-Ok.ensures.best in
    omega (arith, ap length c.as_slice.ensures, joins, c.in_ok-scans.ensures)

pub returns-in-Ok-clause-done : goal.returns-in-Ok-clause-done
returns-in-Ok-clause-done c =
    best_tree c.args.bounds.now c.in_ok-wide.wide c.in-Some.entries (length c.in_ok-scans.scans) c.args.budget c.in_ok-wide.ensures c.in_ok-scans.ensures
    c.in-Ok.plan.joins c.as_slice.result.now c.in-Ok.plan.cost _ c.args.into.now c.write_joins.new.into (record { sets = c.in-Some.ensures; within = omega arith })
    c.in-Ok.ensures.best c.in-Ok.ensures.within
    (joins_counted c.in_ok-wide.wide (length c.in_ok-scans.scans) c.in-Ok.plan.cost c.in-Ok.plan.joins c.in-Ok.ensures.best) c.as_slice.ensures c.len.ensures c.write_joins.ensures

pub overflow_cast-result : goal.overflow_cast-result
overflow_cast-result c =
    let refused = rw c.in-Err-Budget.field-0-is at c.in-Err-Budget.ensures.refused in
    let fits : c.in-Err-Budget.least < 2 ^ 64 =
    tree_fits c.args.bounds.now c.in_ok-wide.wide c.in-Some.entries (length c.in_ok-scans.scans) c.args.budget c.in_ok-wide.ensures c.in_ok-scans.ensures
    (λ k. omega (arith, c.type_inv.bounds k)) c.in-Err-Budget.least refused in
    omega (arith, fits)

pub returns-in-Err-Budget-clause-refused : goal.returns-in-Err-Budget-clause-refused
returns-in-Err-Budget-clause-refused c =
    let refused = rw c.in-Err-Budget.field-0-is at c.in-Err-Budget.ensures.refused in (
      c.in-Some.entries,
      record { sets = c.in-Some.ensures; within = omega arith },
      omega arith,
      tree_cause c.args.bounds.now c.in_ok-wide.wide c.in-Some.entries (length c.in_ok-scans.scans) c.args.budget c.in_ok-wide.ensures c.in_ok-scans.ensures
          (plan_error.Budget c.in-Err-Budget.least) refused,
    )

pub returns-in-Err-PastBits-clause-refused : goal.returns-in-Err-PastBits-clause-refused
returns-in-Err-PastBits-clause-refused c =
    let refused = rw c.in-Err-PastBits.field-0-is at c.in-Err-PastBits.ensures.refused in (
      c.in-Some.entries,
      record { sets = c.in-Some.ensures; within = omega arith },
      omega arith,
      tree_cause c.args.bounds.now c.in_ok-wide.wide c.in-Some.entries (length c.in_ok-scans.scans) c.args.budget c.in_ok-wide.ensures c.in_ok-scans.ensures
          plan_error.PastBits refused,
    )
