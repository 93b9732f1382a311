use Rattle.stats_file_exactness.proofs.Exactness.{bounds_same, none_missing, scans_same, sets_same}
use Rattle.stats_file_exactness.proofs.laws.bounds_from_files_are_exact.Goals as goal

pub returns : goal.returns
returns c = record {
  all = λ schema query db accuracy over least most. none_missing schema query db over accuracy least most;
  scans = λ schema query db accuracy over least most. scans_same schema query db over accuracy least most;
  bounds = λ schema query db accuracy over least most. bounds_same schema query db over accuracy least most;
  sets = λ schema query db accuracy over least most. sets_same schema query db over accuracy least most;
}
