use Rattle.std.proofs.Common.{length, [], ◌∷◌}
use Rattle.std.proofs.lemmas.Result.{err_from_is_err_and}
use Rattle.schema_types.specs.declared.errors.LimitKind.TheVariants as limit
use Rattle.schema_types.specs.Meaning.{if_within_limits}
use Rattle.schema_types.specs.Refusals.{numbers_above, column_counts, text_lengths}
use Rattle.schema_types.proofs.Stages.{stage_above}
use Rattle.schema_types.proofs.scope.Scope.limited.Goals as goal

pub returns-in_err-check_table_count : goal.returns-in_err-check_table_count
unfolding if_within_limits
returns-in_err-check_table_count c =
    let p = err_from_is_err_and c.from_residual.result c.from_residual.ensures.1 in
    rw (p.1, p.2) (stage_above limit.Tables (numbers_above 64 (length c.args.self.now.tables.now ∷ [])) _ c.in_err-check_table_count.field-0.0 c.in_err-check_table_count.ensures)

pub returns-in_err-check_column_counts : goal.returns-in_err-check_column_counts
unfolding if_within_limits
returns-in_err-check_column_counts c =
    let p = err_from_is_err_and c.from_residual-in_err-check_column_counts.result c.from_residual-in_err-check_column_counts.ensures.1 in
    rw (p.1, p.2, c.in_ok-check_table_count.ensures) (stage_above limit.Columns (numbers_above 64 (column_counts c.args.self.now.tables.now)) _ c.in_err-check_column_counts.field-0.0 c.in_err-check_column_counts.ensures)

pub returns-in_err-check_text_lengths : goal.returns-in_err-check_text_lengths
unfolding if_within_limits
returns-in_err-check_text_lengths c =
    let p = err_from_is_err_and c.from_residual-in_err-check_text_lengths.result c.from_residual-in_err-check_text_lengths.ensures.1 in
    rw (p.1, p.2, c.in_ok-check_table_count.ensures, c.in_ok-check_column_counts.ensures) (stage_above limit.TextLength (numbers_above 1000000 (text_lengths c.args.self.now.text.now c.args.self.now.tables.now)) _ c.in_err-check_text_lengths.field-0.0 c.in_err-check_text_lengths.ensures)
