use Rattle.std.proofs.Common.{ℕ, List, subst, sym, ◌∙◌}
use Rattle.std.specs.List.{All}
use Rattle.std.proofs.lemmas.List.Elements.{All-push}
use Rattle.std.proofs.lemmas.Result.{on_ok_weaker}
use Rattle.gathered_stats.specs.declared.paired_rows.PickedColumn.{PickedColumn}
use Rattle.gathered_stats.specs.PairedRows.{IsPicked}
use Rattle.gathered_stats.proofs.Picking.{served_already}
use Rattle.gathered_stats.proofs.paired_rows.add_picked.Goals as goal

pub returns-clause-columns : goal.returns-clause-columns
returns-clause-columns c =
    on_ok_weaker c.push.result
    (λ e. subst (λ (s : List PickedColumn). All (λ one. IsPicked c.args.cells.now c.args.rows.now one.column one) s) (sym e)
    (All-push (λ one. IsPicked c.args.cells.now c.args.rows.now one.column one) c.args.columns.now c.in_ok-pick.field-0 c.requires.columns
    (subst (λ (n : ℕ). IsPicked c.args.cells.now c.args.rows.now n c.in_ok-pick.field-0) (sym c.in_ok-pick.ensures.number) c.in_ok-pick.ensures)))
    c.push.ensures.ok

pub returns-then-is_picked-clause-has_column : goal.returns-then-is_picked-clause-has_column
returns-then-is_picked-clause-has_column c =
    served_already c.args.columns.now c.as_slice.result.now c.args.step.now c.compared_column.result c.in-Some.column c.as_slice.ensures c.compared_column.ensures c.in-Some.is
    (sym c.is_picked.ensures ∙ c.if-is_picked.true)
