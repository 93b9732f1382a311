use Rattle.std.proofs.Common.{ℕ, List, None, Some, ap}
use Rattle.std.specs.Prelude.{codes}
use Rattle.safebound_words.specs.declared.command.OutText.TheVariants as out_text
use Rattle.prepared_runs.specs.RunOutcome.{Planned}
use Rattle.worked_run.specs.Meaning.{two_tables_run}
use Rattle.worked_run.specs.TwoTables.{run_words, small_files}
use Rattle.worked_run.proofs.Calls.{each_call_is_done}
use Rattle.worked_run.proofs.Levels.{notes_text, rows_printed}
use Rattle.worked_run.proofs.Verdicts.{run_verdict}
use Rattle.worked_run.proofs.examples.joined.Goals as goal

pub returns-clause-verdict : goal.returns-clause-verdict
returns-clause-verdict c = run_verdict

pub returns-clause-notes : goal.returns-clause-notes
returns-clause-notes c = notes_text out_text.Rows

pub returns-clause-out : goal.returns-clause-out
returns-clause-out c = rows_printed None

pub returns-clause-call : goal.returns-clause-call
returns-clause-call c = each_call_is_done small_files run_words (Planned (two_tables_run out_text.Rows None)) (Some (codes "scan R 6\nscan S 5\nlevel 1 S 5\nlevel 2 R 12\n"))
    (Some (codes "X\r\n1\r\n1\r\n1\r\n1\r\n1\r\n1\r\n")) run_verdict (ap (λ (t : List ℕ). Some t) (notes_text out_text.Rows)) (rows_printed None)
