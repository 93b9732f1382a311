use Rattle.std.proofs.Common.{◌≡◌, drop}
use Rattle.key_bounds.specs.InSets.{rows_within}
use Rattle.key_bounds.proofs.in_sets.rows_within.Given as goal

abbrev pub invariant-loop-one : goal.invariant-loop-one
invariant-loop-one l = rows_within (drop l.one-index l.carried) l.subset l.entry l.rows ≡ rows_within l.carried l.subset l.entry l.initial.rows
