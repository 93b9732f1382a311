use Rattle.std.proofs.Common.{ℕ, List, Some, ap}
use Rattle.std.specs.Prelude.{codes}
use Rattle.safebound_words.specs.declared.command.ListSource.TheVariants as sources
use Rattle.prepared_runs.specs.RunOutcome.{Planned}
use Rattle.worked_run.specs.Meaning.{two_tables_reduced}
use Rattle.worked_run.specs.TwoTables.{counted_words, small_files}
use Rattle.worked_run.proofs.Calls.{each_call_is_done}
use Rattle.worked_run.proofs.Counted.{counted_verdict}
use Rattle.worked_run.proofs.Reduced.{reduced_notes, reduced_printed}
use Rattle.worked_run.proofs.examples.joined_by_counts.Goals as goal

pub returns-clause-verdict : goal.returns-clause-verdict
returns-clause-verdict c = counted_verdict

pub returns-clause-notes : goal.returns-clause-notes
returns-clause-notes c = reduced_notes sources.Counted

pub returns-clause-out : goal.returns-clause-out
returns-clause-out c = reduced_printed sources.Counted

pub returns-clause-call : goal.returns-clause-call
returns-clause-call c = each_call_is_done small_files counted_words (Planned (two_tables_reduced sources.Counted)) (Some (codes "scan R 3\nscan S 2\nlevel 1 S 2\nlevel 2 R 6\n"))
    (Some (codes "X\r\n1\r\n1\r\n1\r\n1\r\n1\r\n1\r\n")) counted_verdict (ap (λ (t : List ℕ). Some t) (reduced_notes sources.Counted)) (reduced_printed sources.Counted)
