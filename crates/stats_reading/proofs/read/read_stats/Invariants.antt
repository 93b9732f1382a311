use Rattle.std.proofs.Common.{length}
use Rattle.stats_reading.proofs.Reading.{IsRead}
use Rattle.stats_reading.proofs.read.read_stats.Given as goal

abbrev pub invariant-lines : goal.invariant-lines
invariant-lines l = IsRead l.schema l.bytes l.rest l.draft l.line

abbrev pub decreases-lines : goal.decreases-lines
decreases-lines l = length l.rest
