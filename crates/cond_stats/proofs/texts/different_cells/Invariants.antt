use Rattle.std.proofs.Common.{◌≡◌, take}
use Rattle.degree_sequences.specs.Degrees.{different}
use Rattle.cond_stats.proofs.texts.different_cells.Given as goal

abbrev pub invariant-loop-cell : goal.invariant-loop-cell
invariant-loop-cell l = l.set.keys ≡ different (take l.cell-index l.cells)
