use Rattle.std.specs.List.{zip}
use Rattle.column_stats.specs.Nodes.{node_sizes}
use Rattle.column_stats.proofs.NodeLists.{all_sizes, one_more_size}
use Rattle.appended_stats.specs.Grown.{lists_of_size}
use Rattle.appended_stats.proofs.nodes.lists_of_nodes.Goals as goal

pub loop-size-preserved : goal.loop-size-preserved
loop-size-preserved c =
    one_more_size (lists_of_size (λ leaf. leaf) c.args.accuracy (zip c.args.leaves.now c.args.joined.now)) node_sizes
    c.loop-size.nodes c.add_size.new.nodes c.loop-size.size-index c.loop-size-test.true c.loop-size.invariant c.in_ok-add_size.ensures

pub returns : goal.returns
returns c =
    all_sizes (lists_of_size (λ leaf. leaf) c.args.accuracy (zip c.args.leaves.now c.args.joined.now)) node_sizes
    c.loop-size.nodes c.loop-size.size-index c.loop-size-test.false c.loop-size.invariant
