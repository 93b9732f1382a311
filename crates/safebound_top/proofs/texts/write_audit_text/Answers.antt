use Rattle.std.proofs.Common.{arith}
use Rattle.prepared_runs.proofs.ShapeFacts.{is_plan_of_its_scans}
use Rattle.safebound_top.proofs.texts.write_audit_text.Goals as goal

pub write_audit-requires : goal.write_audit-requires
write_audit-requires g c = record {
  database = c.requires.database;
  plan = rw c.in-Order.is at c.requires.parts.plan;
  nodes = c.requires.parts.nodes;
}

pub returns-in-Order : goal.returns-in-Order
returns-in-Order g c = rw c.in-Order.is c.write_audit.ensures

pub write_tree_audit-requires : goal.write_tree_audit-requires
write_tree_audit-requires g c =
    let plan = rw c.in-Tree.is at c.requires.parts.plan in
    record { plan = is_plan_of_its_scans _ c.args.joined.now.plan plan; nodes = omega (arith, c.requires.parts.nodes, plan.scans, plan.joins) }

pub returns-in-Tree : goal.returns-in-Tree
returns-in-Tree g c = rw c.in-Tree.is c.write_tree_audit.ensures
