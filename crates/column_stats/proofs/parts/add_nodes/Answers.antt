use Rattle.std.proofs.Common.{◌*◌}
use Rattle.std.specs.List.{zip}
use Rattle.cond_stats.specs.Columns.{cell_le}
use Rattle.cond_stats.specs.Lists.{list_of_node}
use Rattle.column_stats.proofs.NodeLists.{one_more_node}
use Rattle.column_stats.proofs.parts.add_nodes.Goals as goal

pub loop-i-preserved : goal.loop-i-preserved
loop-i-preserved c =
    one_more_node (λ i. list_of_node (cell_le c.args.column.now.texts c.args.column.now.kind) c.args.accuracy (zip c.args.column.now.cells c.args.joined.now) c.args.size (c.args.size * i))
    c.args.nodes.now c.loop-i.nodes c.push.new.self c.loop-i.i c.in_ok-list.list c.loop-i.invariant c.in_ok-list.ensures c.in_ok-push.ensures.ok
