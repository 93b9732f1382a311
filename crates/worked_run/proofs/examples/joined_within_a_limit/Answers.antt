use Rattle.std.proofs.Common.{ℕ, List, Some, ap}
use Rattle.std.specs.Prelude.{codes}
use Rattle.safebound_words.specs.declared.command.OutText.TheVariants as out_text
use Rattle.prepared_runs.specs.RunOutcome.{Planned}
use Rattle.worked_run.specs.Meaning.{two_tables_run}
use Rattle.worked_run.specs.TwoTables.{limited_words, small_files}
use Rattle.worked_run.proofs.Calls.{each_call_is_done}
use Rattle.worked_run.proofs.Levels.{limited_notes, rows_printed}
use Rattle.worked_run.proofs.Verdicts.{limited_verdict}
use Rattle.worked_run.proofs.examples.joined_within_a_limit.Goals as goal

pub returns-clause-verdict : goal.returns-clause-verdict
returns-clause-verdict c = limited_verdict

pub returns-clause-notes : goal.returns-clause-notes
returns-clause-notes c = limited_notes

pub returns-clause-call : goal.returns-clause-call
returns-clause-call c = each_call_is_done small_files limited_words (Planned (two_tables_run out_text.Rows (Some 531)))
    (Some (codes "scan R 6\nscan S 5\nlevel 1 S 5\nlevel 2 R 12\nmemory 531\n")) (Some (codes "X\r\n1\r\n1\r\n1\r\n1\r\n1\r\n1\r\n"))
    limited_verdict (ap (λ (t : List ℕ). Some t) limited_notes) (rows_printed (Some 531))
