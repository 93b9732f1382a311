use Rattle.std.proofs.Common.{◌+◌, ◌<◌, List, length, sym, subst, arith}
use Rattle.std.specs.List.{AllByRecursion}
use Rattle.std.proofs.lemmas.List.{length-map}
use Rattle.plans.specs.declared.bushy.Join.{Join}
use Rattle.safebound_plans.specs.Memory.{join_of}
use Rattle.safebound_plans.proofs.Numbered.{right_nodes_are_below}
use Rattle.safebound_plans.proofs.memory.tree_memory.Goals as goal

pub joins_memory-requires-clause-nodes : goal.joins_memory-requires-clause-nodes
joins_memory-requires-clause-nodes c =
    subst (λ (s : List Join). AllByRecursion (λ join. join.right < length c.args.rows.now + length s) s) (sym c.write_joins.ensures)
    (right_nodes_are_below (length c.args.rows.now) _ c.args.joins.now c.in_default.ensures (omega (arith, length-map c.args.joins.now join_of)))
