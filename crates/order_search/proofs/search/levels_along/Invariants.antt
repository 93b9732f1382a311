use Rattle.order_search.proofs.LevelsSoFar.{LevelsOfPrefix}
use Rattle.order_search.proofs.search.levels_along.Given as goal

abbrev pub invariant-loop-entry : goal.invariant-loop-entry
invariant-loop-entry l = LevelsOfPrefix l.bounds l.count l.order l.entry-index l.placed l.levels.items
