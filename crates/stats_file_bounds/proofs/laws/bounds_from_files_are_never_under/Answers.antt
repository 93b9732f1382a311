use Rattle.stats_file_bounds.proofs.FromFiles.{few_rows, levels_fit, scans_fit}
use Rattle.stats_file_bounds.proofs.laws.bounds_from_files_are_never_under.Goals as goal

pub returns-clause-sets : goal.returns-clause-sets
returns-clause-sets c = λ query file tables own is none stands. levels_fit query file own is none tables stands

pub returns-clause-scans : goal.returns-clause-scans
returns-clause-scans c = λ query file tables own is none stands. scans_fit query file own is none tables stands

pub returns-clause-tables : goal.returns-clause-tables
returns-clause-tables c = λ query file tables own is none stands. few_rows query file own is none tables stands
