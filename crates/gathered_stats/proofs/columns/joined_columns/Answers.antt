use Rattle.std.proofs.Common.{refl}
use Rattle.query_bounds.proofs.Holding.{no_edge}
use Rattle.gathered_stats.proofs.Joined.{pair_more}
use Rattle.gathered_stats.proofs.columns.joined_columns.Goals as goal

pub loop-edge-preserved : goal.loop-edge-preserved
loop-edge-preserved c =
    pair_more c.args.entry c.args.equalities.now c.args.equalities.now c.loop-edge.edge-index no_edge c.loop-edge.columns c.add_joined_column.new.columns c.add_joined_column-in-loop-edge.new.columns
    refl c.loop-edge-test.true c.loop-edge.invariant c.in_ok-add_joined_column.ensures c.in_ok-add_joined_column-2.ensures
