use Rattle.std.proofs.Common.{None, Some}
use Rattle.std.specs.Prelude.{codes}
use Rattle.worked_run.specs.OneTable.{keyed_words, workers_files}
use Rattle.worked_run.proofs.Calls.{each_call_prints}
use Rattle.worked_run.proofs.Keyed.{keyed_printed}
use Rattle.worked_run.proofs.keys.planned_by_keys.Goals as goal

pub returns-clause-printed : goal.returns-clause-printed
returns-clause-printed c = keyed_printed

pub returns-clause-call : goal.returns-clause-call
returns-clause-call c = each_call_prints workers_files keyed_words (Some (codes "scan E 5\nscan M 1\nlevel 1 M 1\nlevel 2 E 2\n")) None keyed_printed
