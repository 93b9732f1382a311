use Rattle.predicate_bounds.proofs.Finishing.{FinishedSoFar}
use Rattle.predicate_bounds.proofs.reading.Members.finish.Given as goal

abbrev pub invariant-loop-i : goal.invariant-loop-i
invariant-loop-i l = FinishedSoFar l.initial.self l.initial.steps l.self l.steps l.len l.i
