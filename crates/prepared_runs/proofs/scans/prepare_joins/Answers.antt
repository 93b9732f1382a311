use Rattle.std.proofs.Common.{ℕ, ◌+◌, List, ap, sym, ◌∙◌, subst}
use Rattle.reserve_plan.specs.Memory.{lists_bytes}
use Rattle.bushy_join.specs.Trees.{IsTreePlanOf}
use Rattle.sql_meaning.specs.Tables.{tables_of}
use Rattle.join_steps.specs.Lists.{lists_of}
use Rattle.prepared_runs.specs.PreparedQuery.{room_bytes, lists_in}
use Rattle.prepared_runs.specs.Standing.{LoseNoRow}
use Rattle.prepared_runs.proofs.scans.prepare_joins.Goals as goal

pub list_rows-requires-clause-count : goal.list_rows-requires-clause-count
list_rows-requires-clause-count c = c.requires.plan.for_each_entry.scans

pub list_rows-requires-clause-fit : goal.list_rows-requires-clause-fit
list_rows-requires-clause-fit c = c.requires.plan.scans

pub reserve_room-requires-clause-plan : goal.reserve_room-requires-clause-plan
reserve_room-requires-clause-plan c = (lists_in c.args.planned.scans c.args.query.now (tables_of c.args.db.now), c.requires.plan)

pub returns-clause-room : goal.returns-clause-room
returns-clause-room c =
    let planned = c.args.planned in
    let query = c.args.query.now in
    let tables = tables_of c.args.db.now in
    let its = subst (λ (l : List (List ℕ)). IsTreePlanOf query tables l planned.plan) (sym c.in_ok-lists.ensures.lists) c.requires.plan in
    record {
      rows = subst (λ (l : List (List ℕ)). LoseNoRow query tables l) (sym c.in_ok-lists.ensures.lists) c.requires.rows;
      room = c.in_ok-room.ensures.ready (lists_of c.in_ok-lists.lists.items) its;
    }

pub returns-clause-bytes : goal.returns-clause-bytes
returns-clause-bytes c =
    let plan = c.args.planned.plan in
    ap (λ (n : ℕ). n + room_bytes c.in_ok-room.room) c.in_ok-lists.ensures.bytes ∙ ap (λ (n : ℕ). lists_bytes plan.scans + n) c.in_ok-room.ensures.bytes
