use Rattle.std.proofs.Common.{ℕ, List, None, Some, ap}
use Rattle.std.specs.Prelude.{codes}
use Rattle.safebound_words.specs.declared.command.OutText.TheVariants as out_text
use Rattle.prepared_runs.specs.RunOutcome.{Planned}
use Rattle.worked_run.specs.Meaning.{two_tables_tree}
use Rattle.worked_run.specs.TwoTables.{tree_words, small_files}
use Rattle.worked_run.proofs.Calls.{each_call_is_done}
use Rattle.worked_run.proofs.Levels.{tree_audit, tree_notes}
use Rattle.worked_run.proofs.Verdicts.{tree_verdict}
use Rattle.worked_run.proofs.examples.audited_as_a_tree.Goals as goal

pub returns-clause-verdict : goal.returns-clause-verdict
returns-clause-verdict c = tree_verdict

pub returns-clause-out : goal.returns-clause-out
returns-clause-out c = tree_audit

pub returns-clause-call : goal.returns-clause-call
returns-clause-call c = each_call_is_done small_files tree_words (Planned (two_tables_tree out_text.Audit None)) (Some (codes "scan R 6\nscan S 5\nnode 2 0 1 12\n"))
    (Some (codes "node 2 0 1 12 6\n")) tree_verdict (ap (λ (t : List ℕ). Some t) (tree_notes out_text.Audit)) tree_audit
