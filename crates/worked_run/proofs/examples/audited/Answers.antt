use Rattle.std.proofs.Common.{ℕ, List, None, Some, ap}
use Rattle.std.specs.Prelude.{codes}
use Rattle.safebound_words.specs.declared.command.OutText.TheVariants as out_text
use Rattle.prepared_runs.specs.RunOutcome.{Planned}
use Rattle.worked_run.specs.Meaning.{two_tables_run}
use Rattle.worked_run.specs.TwoTables.{audit_words, small_files}
use Rattle.worked_run.proofs.Calls.{each_call_is_done}
use Rattle.worked_run.proofs.Levels.{audit_printed, notes_text}
use Rattle.worked_run.proofs.Verdicts.{audit_verdict}
use Rattle.worked_run.proofs.examples.audited.Goals as goal

pub returns-clause-verdict : goal.returns-clause-verdict
returns-clause-verdict c = audit_verdict

pub returns-clause-out : goal.returns-clause-out
returns-clause-out c = audit_printed

pub returns-clause-call : goal.returns-clause-call
returns-clause-call c = each_call_is_done small_files audit_words (Planned (two_tables_run out_text.Audit None)) (Some (codes "scan R 6\nscan S 5\nlevel 1 S 5\nlevel 2 R 12\n"))
    (Some (codes "level 1 S 5 5\nlevel 2 R 12 6\n")) audit_verdict (ap (λ (t : List ℕ). Some t) (notes_text out_text.Audit)) audit_printed
