use Rattle.std.proofs.Common.{◌≡◌, eqb, drop}
use Rattle.std.specs.Prelude.{find}
use Rattle.pair_tables.proofs.answers.for_equal.Given as goal

abbrev pub invariant-loop-frequent : goal.invariant-loop-frequent
invariant-loop-frequent l = find (λ found. eqb found.cell l.value) l.stats.frequent ≡ find (λ found. eqb found.cell l.value) (drop l.frequent-index l.frequent-items)
