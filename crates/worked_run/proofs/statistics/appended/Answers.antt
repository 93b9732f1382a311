use Rattle.std.proofs.Common.{None, Some, refl}
use Rattle.worked_run.specs.Meaning.{small_appended}
use Rattle.worked_run.specs.TwoTables.{append_words, grown_text, small_files}
use Rattle.worked_run.proofs.Calls.{each_call_is_done}
use Rattle.worked_run.proofs.StatsFiles.{append_printed, append_verdict}
use Rattle.worked_run.proofs.statistics.appended.Goals as goal

pub returns-clause-verdict : goal.returns-clause-verdict
returns-clause-verdict c = append_verdict

pub returns-clause-out : goal.returns-clause-out
returns-clause-out c = append_printed

pub returns-clause-call : goal.returns-clause-call
returns-clause-call c = each_call_is_done small_files append_words small_appended None (Some grown_text) append_verdict refl append_printed
