use Rattle.std.proofs.Common.{ℕ, List, length, ap, sym, ◌∙◌, subst, arith}
use Rattle.std.proofs.lemmas.List.{take_at}
use Rattle.sql_meaning.specs.Tables.{tables_of}
use Rattle.join_steps.specs.Lists.{lists_of, AreOfScans}
use Rattle.join_steps.proofs.WholeScans.{scans_are_of_scans}
use Rattle.bushy_join.specs.Trees.{IsTreePlanOf}
use Rattle.join_tests.proofs.TreeNodes.{has_nodes, plan_is_over_its_scans}
use Rattle.join_tests.proofs.trees.joined.Goals as goal

pub reserve_bushy-requires : goal.reserve_bushy-requires
reserve_bushy-requires c = record {
  plan = plan_is_over_its_scans (length c.args.query.now.from) c.in_ok-plan.plan c.in_ok-plan.ensures.never_under.for_each_entry;
  small = c.in_ok-plan.ensures.never_under.small;
}

pub scan_all-requires-clause-room : goal.scan_all-requires-clause-room
scan_all-requires-clause-room c = rw c.as_mut_slice.ensures.value c.in_ok-lists.ensures.room

pub execute_bushy-done-requires-clause-lists : goal.execute_bushy-done-requires-clause-lists
execute_bushy-done-requires-clause-lists c =
    let query = c.args.query.now in
    let tables = tables_of c.args.db.now in
    subst (AreOfScans query tables)
    (sym (ap lists_of (take_at c.scan_all.new.lists _ c.in_ok-lists.lists.len (omega (arith, c.scan_all.auto.lists, c.as_mut_slice.ensures.len))) ∙ c.scan_all.ensures.rows))
    (scans_are_of_scans query tables)

pub execute_bushy-done-requires-clause-plan : goal.execute_bushy-done-requires-clause-plan
execute_bushy-done-requires-clause-plan c =
    let query = c.args.query.now in
    let tables = tables_of c.args.db.now in
    subst (λ (s : List (List ℕ)). IsTreePlanOf query tables s c.in_ok-plan.plan)
    (sym (ap lists_of (take_at c.scan_all.new.lists _ c.in_ok-lists.lists.len (omega (arith, c.scan_all.auto.lists, c.as_mut_slice.ensures.len))) ∙ c.scan_all.ensures.rows))
    c.in_ok-plan.ensures.never_under

pub returns : goal.returns
returns c =
    has_nodes (length c.args.query.now.from) c.in_ok-plan.plan c.execute_bushy-done.result.nodes c.in_ok-plan.ensures.never_under.for_each_entry
    c.execute_bushy-done.ensures.count c.execute_bushy-done.ensures.entries
