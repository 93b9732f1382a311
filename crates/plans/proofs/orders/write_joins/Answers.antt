use Rattle.std.proofs.Common.{refl, arith}
use Rattle.plans.proofs.Building.{next_written}
use Rattle.plans.proofs.orders.write_joins.Goals as goal

pub levels-preserved : goal.levels-preserved
levels-preserved c = record {
  not_empty = omega arith;
  written = next_written c.args.n c.args.order.now c.args.levels.now c.levels.k 0 0 c.level_node-left.result c.requires.levels c.levels.invariant.not_empty (omega (arith, c.levels-test.true))
      c.levels.into (omega (arith, c.levels.auto.into, c.requires.room)) (c.level_node-left.ensures c.args.order.now refl) c.levels.invariant.written;
}
