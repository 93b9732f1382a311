use Rattle.std.proofs.Common.{◌∙◌, sym}
use Rattle.std.specs.List.{zip}
use Rattle.cond_stats.specs.Columns.{cell_le}
use Rattle.column_stats.specs.Nodes.{lists_of_size, node_sizes}
use Rattle.column_stats.proofs.NodeLists.{all_sizes, one_more_size, nodes_if_rows}
use Rattle.column_stats.proofs.parts.node_lists.Goals as goal

pub loop-size-preserved : goal.loop-size-preserved
loop-size-preserved c =
    one_more_size (lists_of_size (cell_le c.args.column.now.texts c.args.column.now.kind) c.args.accuracy (zip c.args.column.now.cells c.args.joined.now)) node_sizes
    c.loop-size.nodes c.add_nodes.new.nodes c.loop-size.size-index c.loop-size-test.true c.loop-size.invariant c.in_ok-add_nodes.ensures

pub returns : goal.returns
returns c =
    all_sizes (lists_of_size (cell_le c.args.column.now.texts c.args.column.now.kind) c.args.accuracy (zip c.args.column.now.cells c.args.joined.now)) node_sizes
    c.loop-size.nodes c.loop-size.size-index c.loop-size-test.false c.loop-size.invariant
    ∙ nodes_if_rows (cell_le c.args.column.now.texts c.args.column.now.kind) c.args.accuracy c.args.column.now.cells c.args.joined.now c.requires.joined
    (sym c.is_empty.ensures ∙ c.if-is_empty.false)
