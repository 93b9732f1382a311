use Rattle.prepared_runs.proofs.joined.join.Goals as goal

pub execute_bushy-done-requires-clause-lists : goal.execute_bushy-done-requires-clause-lists
execute_bushy-done-requires-clause-lists c = c.requires.joins.rows.scanned

pub execute_bushy-done-requires-clause-plan : goal.execute_bushy-done-requires-clause-plan
execute_bushy-done-requires-clause-plan c = c.requires.joins.room.plan_of

pub execute_bushy-done-requires-clause-rooms : goal.execute_bushy-done-requires-clause-rooms
execute_bushy-done-requires-clause-rooms c = c.requires.joins.room.rooms

pub returns-clause-joined : goal.returns-clause-joined
returns-clause-joined c = record {
  rows = c.requires.joins.rows;
  plan_of = c.requires.joins.room.plan_of;
  count = c.execute_bushy-done.ensures.count;
  entries = c.execute_bushy-done.ensures.entries;
  choices = c.execute_bushy-done.ensures.rows;
}
