use Rattle.tree_rows.proofs.OrderNodes.{rights_exist}
use Rattle.tree_rows.proofs.memory.order_memory.Goals as goal

pub joins_memory-requires-clause-nodes : goal.joins_memory-requires-clause-nodes
joins_memory-requires-clause-nodes c = rights_exist _ c.args.order.now c.args.levels.now _ c.requires.entries c.write_joins.ensures
