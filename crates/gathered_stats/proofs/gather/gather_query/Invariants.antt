use Rattle.gathered_stats.specs.Asked.{AreGathered}
use Rattle.gathered_stats.proofs.gather.gather_query.Given as goal

abbrev pub invariant-loop-entry : goal.invariant-loop-entry
invariant-loop-entry l = AreGathered l.query l.db l.accuracy l.entry l.entries
