use Rattle.std.proofs.Common.{◌≡◌, ℕ, ◌<◌, List, [], length, not, cond, ap, sym, ◌∙◌, subst, arith}
use Rattle.sql_meaning.specs.Answers.{conjuncts_of}
use Rattle.sql_meaning.specs.Levels.{all_hold, row_in}
use Rattle.sql_meaning.specs.Tables.{tables_of}
use Rattle.join_steps.specs.Lists.{lists_of}
use Rattle.plans.specs.declared.bushy.BushyPlan.{BushyPlan}
use Rattle.plans.specs.Orders.{level_node}
use Rattle.tree_rows.specs.Nodes.{node_at}
use Rattle.tree_rows.specs.Rooms.{HasTreeRooms}
use Rattle.tree_rows.specs.Trees.{entries_at, node_count}
use Rattle.bushy_join.specs.Trees.{node_rows, IsTreePlanOf}
use Rattle.bushy_join.proofs.FirstLevel.{first_rows}
use Rattle.bushy_join.proofs.OrderRows.{level_rows, order_planned}
use Rattle.join_tests.proofs.OrderLevels.{has_levels, level_there}
use Rattle.join_tests.proofs.orders.execute.Goals as goal

pub execute_bushy-requires-clause-plan : goal.execute_bushy-requires-clause-plan
execute_bushy-requires-clause-plan c =
    let query = c.args.query.now in
    let tables = tables_of c.args.db.now in
    let lists = lists_of c.args.lists.items in
    let database = c.requires.database in
    subst (IsTreePlanOf query tables lists) (sym c.requires.tree)
    (order_planned query tables lists c.args.plan.now database.some database.few c.requires.plan.for_each_entry c.requires.plan database.rows_within_limit)

pub execute_bushy-requires-clause-rooms : goal.execute_bushy-requires-clause-rooms
execute_bushy-requires-clause-rooms c = subst (λ (t : BushyPlan). HasTreeRooms t c.args.reserved.buffers) (sym c.requires.tree) c.requires.rooms

pub returns-clause-levels : goal.returns-clause-levels
returns-clause-levels c =
    let nodes = c.execute_bushy.result.nodes in
    let database = c.requires.database in
    has_levels (length c.args.query.now.from) c.args.plan.now database.some database.few c.requires.plan.for_each_entry nodes
    (c.execute_bushy.ensures.count ∙ ap node_count c.requires.tree)
    (subst (λ (t : BushyPlan). (node : ℕ) → node < node_count t → (node_at nodes node).entries ≡ entries_at t node) c.requires.tree c.execute_bushy.ensures.entries)

pub returns-clause-first : goal.returns-clause-first
returns-clause-first c =
    let query = c.args.query.now in
    let db = c.args.db.now in
    let lists = lists_of c.args.lists.items in
    let plan = c.args.plan.now in
    let n = length query.from in
    let nodes = c.execute_bushy.result.nodes in
    let database = c.requires.database in
    let is = c.requires.plan.for_each_entry in
    let rows = subst (λ (t : BushyPlan). (node : ℕ) → node < node_count t → (node_at nodes node).rows ≡ node_rows query (tables_of db) lists t node) c.requires.tree c.execute_bushy.ensures.rows in
    first_rows query db lists plan database.some is c.requires.lists
    ∙ ap (λ (s : List (List ℕ)). cond (not (all_hold (conjuncts_of query (tables_of db)) [] (row_in [] []))) [] s)
    (sym (rows (level_node n plan.order 1) (level_there n plan database.some database.few is 1 (omega arith) (omega (arith, database.some)))))

pub returns-clause-rows : goal.returns-clause-rows
returns-clause-rows c k later within =
    let query = c.args.query.now in
    let tables = tables_of c.args.db.now in
    let lists = lists_of c.args.lists.items in
    let plan = c.args.plan.now in
    let n = length query.from in
    let nodes = c.execute_bushy.result.nodes in
    let database = c.requires.database in
    let is = c.requires.plan.for_each_entry in
    let rows = subst (λ (t : BushyPlan). (node : ℕ) → node < node_count t → (node_at nodes node).rows ≡ node_rows query tables lists t node) c.requires.tree c.execute_bushy.ensures.rows in
    rows (level_node n plan.order k) (level_there n plan database.some database.few is k (omega (arith, later)) within)
    ∙ level_rows query tables lists plan database.some database.few is k later within
