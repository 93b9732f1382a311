use Rattle.std.proofs.Common.{refl}
use Rattle.std.specs.Fmt.{digits}
use Rattle.stats_file.specs.FileText.{file_lines, pair_lines, table_lines}
use Rattle.stats_file.specs.Runs.{runs_of}
use Rattle.stats_file.proofs.CaseFacts.{stats_without_rows_keep_rules}
use Rattle.stats_file.proofs.cases.examples.Goals as goal

pub returns-clause-no_rows : goal.returns-clause-no_rows
unfolding file_lines pair_lines table_lines runs_of digits
returns-clause-no_rows c = refl

pub returns-clause-keeps : goal.returns-clause-keeps
returns-clause-keeps c = stats_without_rows_keep_rules

pub returns-clause-six : goal.returns-clause-six
unfolding pair_lines runs_of digits
returns-clause-six c = refl

pub returns-clause-least : goal.returns-clause-least
unfolding digits
returns-clause-least c = refl

pub returns-clause-greatest : goal.returns-clause-greatest
unfolding digits
returns-clause-greatest c = refl

pub returns-clause-runs : goal.returns-clause-runs
unfolding runs_of digits
returns-clause-runs c = refl
