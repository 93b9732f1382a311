use Rattle.std.proofs.Common.{length}
use Rattle.stats_words.proofs.ListFacts.{RunsReadSoFar}
use Rattle.stats_words.proofs.lists.runs.Given as goal

abbrev pub invariant-runs : goal.invariant-runs
invariant-runs l = RunsReadSoFar l.rows l.word l.rest l.list l.below l.left

abbrev pub decreases-runs : goal.decreases-runs
decreases-runs l = length l.rest
