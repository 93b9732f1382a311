use Rattle.std.proofs.Common.{◌≡◌, drop}
use Rattle.predicate_bounds.specs.StatsLists.{column_steps}
use Rattle.predicate_bounds.proofs.StatsListFacts.{found}
use Rattle.predicate_bounds.proofs.columns.QueryStats.bound_list.Given as goal

abbrev pub invariant-loop-joined : goal.invariant-loop-joined
invariant-loop-joined l = column_steps l.self l.from l.column ≡ found l.column (drop l.joined-index l.joined-items)
