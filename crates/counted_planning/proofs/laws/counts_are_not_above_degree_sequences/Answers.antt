use Rattle.reduced_scans.specs.Rounds.{reduced_of}
use Rattle.planning.proofs.ReducedPlans.{reduced_of_scans}
use Rattle.counted_planning.proofs.InSets.{not_above_at}
use Rattle.counted_planning.proofs.laws.counts_are_not_above_degree_sequences.Goals as goal

pub returns : goal.returns
returns c = record {
  over_lists = λ counted query tables lists accuracy subset are fits. not_above_at counted query tables lists accuracy are subset fits;
  over_reduced_scans = λ counted query tables accuracy subset fits. not_above_at counted query tables (reduced_of query tables) accuracy (reduced_of_scans query tables) subset fits;
}
