use Rattle.std.proofs.Common.{take}
use Rattle.predicate_bounds.proofs.Own.{AreRead}
use Rattle.predicate_bounds.proofs.reading.read_own.Given as goal

abbrev pub invariant-loop-number : goal.invariant-loop-number
invariant-loop-number l = AreRead l.query.conjuncts (take l.number-index l.own) l.initial.members l.initial.steps l.members l.steps
