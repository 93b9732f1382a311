use Rattle.std.proofs.Common.{◌==◌, ap, sym, ◌∙◌}
use Rattle.std.specs.List.{list_any}
use Rattle.std.proofs.lemmas.Result.{on_ok_weaker}
use Rattle.stats_file_of_query.proofs.Adding.{absent_column_added, present_column_not_added}
use Rattle.stats_file_of_query.proofs.filters.add_column.Goals as goal

pub returns-then-has_column : goal.returns-then-has_column
returns-then-has_column c =
    present_column_not_added c.args.columns.now c.args.column c.in-Some.column c.in-Some.is
    (ap (list_any (λ other. c.in-Some.column == other)) (sym c.as_slice.ensures) ∙ sym c.has_column.ensures ∙ c.if-has_column.true)

pub returns : goal.returns
returns c =
    on_ok_weaker c.push.result
    (λ pushed. pushed ∙ absent_column_added c.args.columns.now c.args.column c.in-Some.column c.in-Some.is
    (ap (list_any (λ other. c.in-Some.column == other)) (sym c.as_slice.ensures) ∙ sym c.has_column.ensures ∙ c.if-has_column.false)) c.push.ensures.ok
