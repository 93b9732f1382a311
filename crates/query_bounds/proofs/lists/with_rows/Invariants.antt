use Rattle.std.proofs.Common.{[]}
use Rattle.query_bounds.specs.Bounds.{HoldsKnown}
use Rattle.query_bounds.specs.Statistics.{Statistics, HasStatistics}
use Rattle.query_bounds.proofs.lists.with_rows.Given as goal

abbrev pub invariant-loop-entry : goal.invariant-loop-entry
invariant-loop-entry l = (known : Statistics) → HasStatistics l.query l.stats known → HoldsKnown l.query known l.entry [] l.lists
