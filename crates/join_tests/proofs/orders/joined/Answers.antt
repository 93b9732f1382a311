use Rattle.std.proofs.Common.{ℕ, List, length, ap, sym, ◌∙◌, subst, arith}
use Rattle.std.proofs.lemmas.List.{take_at}
use Rattle.plans.specs.LeftDeep.{IsPlan}
use Rattle.plans.specs.declared.left_deep.Plan.{Plan}
use Rattle.query_types.specs.declared.types.Query.{Query}
use Rattle.sql_meaning.specs.Tables.{tables_of}
use Rattle.join_steps.specs.Lists.{lists_of, scans_of, AreOfScans}
use Rattle.join_steps.specs.Plans.{IsPlanOf}
use Rattle.join_steps.proofs.WholeScans.{scans_are_of_scans}
use Rattle.bushy_join.proofs.OrderRows.{order_planned}
use Rattle.join_tests.specs.Examples.{t_r_s, HasLevels}
use Rattle.join_tests.proofs.OrderLevels.{fits_still, planned_still}
use Rattle.join_tests.proofs.orders.joined.Goals as goal

pub reserve_scans-requires : goal.reserve_scans-requires
reserve_scans-requires c =
    let is = planned_still c.in_ok-query.query c.in_ok-db.db c.in_ok-plan.plan c.in_ok-query.ensures c.in_ok-db.ensures c.in_ok-plan.ensures in
    rw c.as_slice.ensures (record { count = is.for_each_entry.scans; fit = is.scans })

pub scan_all-requires : goal.scan_all-requires
scan_all-requires c = record {
  database = fits_still c.in_ok-query.query c.in_ok-db.db c.in_ok-plan.plan c.in_ok-query.ensures c.in_ok-db.ensures c.in_ok-plan.ensures;
  room = rw c.as_mut_slice.ensures.value c.in_ok-lists.ensures.room;
}

pub reserve-requires : goal.reserve-requires
reserve-requires c =
    let query = c.in_ok-query.query in
    let db = c.in_ok-db.db in
    let plan = c.in_ok-plan.plan in
    let database = fits_still query db plan c.in_ok-query.ensures c.in_ok-db.ensures c.in_ok-plan.ensures in
    let of = planned_still query db plan c.in_ok-query.ensures c.in_ok-db.ensures c.in_ok-plan.ensures in
    let is = of.for_each_entry in
    record {
      plan = subst (λ (n : ℕ). IsPlan n plan) (sym is.scans) is;
      not_empty = omega (arith, is.scans, database.some);
      few = omega (arith, is.scans, database.few);
      small = (order_planned query (tables_of db) (scans_of query (tables_of db)) plan database.some database.few is of database.rows_within_limit).small;
    }

pub execute-requires-clause-database : goal.execute-requires-clause-database
execute-requires-clause-database c = fits_still c.in_ok-query.query c.in_ok-db.db c.in_ok-plan.plan c.in_ok-query.ensures c.in_ok-db.ensures c.in_ok-plan.ensures

pub execute-requires-clause-lists : goal.execute-requires-clause-lists
execute-requires-clause-lists c =
    let query = c.in_ok-query.query in
    let tables = tables_of c.in_ok-db.db in
    subst (AreOfScans query tables)
    (sym (ap lists_of (take_at c.scan_all.new.lists _ c.in_ok-lists.lists.len (omega (arith, c.scan_all.auto.lists, c.as_mut_slice.ensures.len))) ∙ c.scan_all.ensures.rows))
    (scans_are_of_scans query tables)

pub execute-requires-clause-plan : goal.execute-requires-clause-plan
execute-requires-clause-plan c =
    let query = c.in_ok-query.query in
    let db = c.in_ok-db.db in
    let plan = c.in_ok-plan.plan in
    subst (λ (s : List (List ℕ)). IsPlanOf query (tables_of db) s plan)
    (sym (ap lists_of (take_at c.scan_all.new.lists _ c.in_ok-lists.lists.len (omega (arith, c.scan_all.auto.lists, c.as_mut_slice.ensures.len))) ∙ c.scan_all.ensures.rows))
    (planned_still query db plan c.in_ok-query.ensures c.in_ok-db.ensures c.in_ok-plan.ensures)

pub returns : goal.returns
returns c =
    let nodes = c.execute.result.nodes in
    subst (λ (q : Query). HasLevels (length q.from) t_r_s.order nodes) c.in_ok-query.ensures
    (subst (λ (p : Plan). HasLevels (length c.in_ok-query.query.from) p.order nodes) c.in_ok-plan.ensures c.execute.ensures.levels)
