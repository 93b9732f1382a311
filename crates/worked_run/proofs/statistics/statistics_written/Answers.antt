use Rattle.std.proofs.Common.{None, Some, refl}
use Rattle.worked_run.specs.Meaning.{small_stats_file}
use Rattle.worked_run.specs.TwoTables.{small_files, stats_text, stats_words}
use Rattle.worked_run.proofs.Calls.{each_call_is_done}
use Rattle.worked_run.proofs.StatsFiles.{stats_printed, stats_verdict}
use Rattle.worked_run.proofs.statistics.statistics_written.Goals as goal

pub returns-clause-verdict : goal.returns-clause-verdict
returns-clause-verdict c = stats_verdict

pub returns-clause-out : goal.returns-clause-out
returns-clause-out c = stats_printed

pub returns-clause-call : goal.returns-clause-call
returns-clause-call c = each_call_is_done small_files stats_words small_stats_file None (Some stats_text) stats_verdict refl stats_printed
