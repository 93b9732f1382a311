use Rattle.std.proofs.Common.{None, Some}
use Rattle.std.specs.Prelude.{codes}
use Rattle.worked_run.specs.TwoTables.{from_file_words, small_files}
use Rattle.worked_run.proofs.Calls.{each_call_prints}
use Rattle.worked_run.proofs.StatsFiles.{plan_printed}
use Rattle.worked_run.proofs.statistics.planned_from_a_file.Goals as goal

pub returns-clause-printed : goal.returns-clause-printed
returns-clause-printed c = plan_printed

pub returns-clause-call : goal.returns-clause-call
returns-clause-call c = each_call_prints small_files from_file_words (Some (codes "scan R 6\nscan S 5\nlevel 1 S 5\nlevel 2 R 12\n")) None plan_printed
