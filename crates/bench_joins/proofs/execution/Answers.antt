use Rattle.std.proofs.Common.{◌≡◌, ℕ, List, ◌++◌, length, take, drop, ap, sym, ◌∙◌, subst, arith}
use Rattle.std.specs.List.{AllZip}
use Rattle.std.proofs.lemmas.List.{take_at}
use Rattle.row_buf.specs.Rows.{Rows}
use Rattle.reserve_plan.specs.Rooms.{IsRoomFor}
use Rattle.sql_meaning.specs.Tables.{tables_of}
use Rattle.join_steps.specs.Lists.{list_sizes, lists_of, scans_of, AreOfScans}
use Rattle.join_steps.proofs.WholeScans.{scans_are_of_scans}
use Rattle.plans.specs.declared.bushy.BushyPlan.{BushyPlan}
use Rattle.tree_rows.specs.Trees.{entries_at, node_count}
use Rattle.bushy_join.specs.Trees.{IsTreePlanOf}
use Rattle.bushy_join.proofs.Scans.{leaf_rooms}
use Rattle.bench_joins.proofs.TwoTables.{two_tables_are_database, plan_of_two_is_of_query}
use Rattle.bench_joins.proofs.execution.Goals as goal

pub scan_all-requires-clause-database : goal.scan_all-requires-clause-database
scan_all-requires-clause-database g c = two_tables_are_database c.args.plan.now c.args.query.now c.args.db.now c.requires.join

pub scan_all-requires-clause-room : goal.scan_all-requires-clause-room
scan_all-requires-clause-room g c =
    let query = c.args.query.now in
    let tables = tables_of c.args.db.now in
    subst (AllZip IsRoomFor (list_sizes query (scans_of query tables))) (sym c.as_mut_slice.ensures.value)
    (leaf_rooms query tables c.args.plan.now (plan_of_two_is_of_query c.args.plan.now query c.args.db.now c.requires.join) c.args.lists.items c.requires.lists)

pub execute_bushy-done-requires-clause-database : goal.execute_bushy-done-requires-clause-database
execute_bushy-done-requires-clause-database g c = two_tables_are_database c.args.plan.now c.args.query.now c.args.db.now c.requires.join

pub execute_bushy-done-requires-clause-lists : goal.execute_bushy-done-requires-clause-lists
execute_bushy-done-requires-clause-lists g c =
    let query = c.args.query.now in
    let tables = tables_of c.args.db.now in
    let scanned : List (Rows ℕ) = take c.args.lists.len (c.scan_all.new.lists ++ drop (length c.scan_all.new.lists) c.args.lists.items) in
    let same : lists_of scanned ≡ scans_of query tables =
    ap lists_of (take_at c.scan_all.new.lists _ c.args.lists.len (omega (arith, c.scan_all.auto.lists, c.as_mut_slice.ensures.len))) ∙ c.scan_all.ensures.rows in
    subst (AreOfScans query tables) (sym same) (scans_are_of_scans query tables)

pub execute_bushy-done-requires-clause-plan : goal.execute_bushy-done-requires-clause-plan
execute_bushy-done-requires-clause-plan g c =
    let query = c.args.query.now in
    let tables = tables_of c.args.db.now in
    let scanned : List (Rows ℕ) = take c.args.lists.len (c.scan_all.new.lists ++ drop (length c.scan_all.new.lists) c.args.lists.items) in
    let same : lists_of scanned ≡ scans_of query tables =
    ap lists_of (take_at c.scan_all.new.lists _ c.args.lists.len (omega (arith, c.scan_all.auto.lists, c.as_mut_slice.ensures.len))) ∙ c.scan_all.ensures.rows in
    subst (λ (lists : List (List ℕ)). IsTreePlanOf query tables lists c.args.plan.now) (sym same) (plan_of_two_is_of_query c.args.plan.now query c.args.db.now c.requires.join)

pub counted_and_summed-rows-requires-clause-nodes : goal.counted_and_summed-rows-requires-clause-nodes
counted_and_summed-rows-requires-clause-nodes g c = c.execute_bushy-done.ensures.count ∙ ap node_count c.requires.join.is_plan

pub counted_and_summed-rows-requires-clause-entries : goal.counted_and_summed-rows-requires-clause-entries
counted_and_summed-rows-requires-clause-entries g c =
    let many : node_count c.args.plan.now ≡ 3 = ap node_count c.requires.join.is_plan in
    c.execute_bushy-done.ensures.entries 2 (omega (arith, many)) ∙ ap (λ (plan : BushyPlan). entries_at plan 2) c.requires.join.is_plan
