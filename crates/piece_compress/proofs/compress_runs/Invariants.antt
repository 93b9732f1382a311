use Rattle.piece_compress.proofs.GrowingRuns.{GrowingRuns}
use Rattle.piece_compress.proofs.compress_runs.Given as goal

abbrev pub invariant-loop-equal : goal.invariant-loop-equal
invariant-loop-equal l = GrowingRuns l.accuracy l.runs l.equal-index l.pieces l.run.value l.run.count l.head l.rows l.covered
