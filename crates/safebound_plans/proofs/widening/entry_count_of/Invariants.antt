use Rattle.std.proofs.Common.{◌<◌, ℕ}
use Rattle.safebound_plans.specs.Given.{HaveOneForEachSet}
use Rattle.safebound_plans.proofs.widening.entry_count_of.Given as goal

abbrev pub invariant-loop-n : goal.invariant-loop-n
invariant-loop-n l = (k : ℕ) → k < l.n → ¬ HaveOneForEachSet l.bounds k
