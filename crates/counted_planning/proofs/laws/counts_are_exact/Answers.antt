use Rattle.counted_planning.proofs.InSets.{exact_at, level_exact}
use Rattle.counted_planning.proofs.laws.counts_are_exact.Goals as goal

pub returns : goal.returns
returns c = record { sets = exact_at; levels = level_exact }
