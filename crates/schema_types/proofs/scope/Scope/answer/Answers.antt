use Rattle.std.proofs.lemmas.Result.{err_from_is_err_and}
use Rattle.schema_types.specs.Meaning.{schema_or_refusal}
use Rattle.schema_types.specs.Offences.{offences}
use Rattle.schema_types.specs.Refusals.{nullable_offsets}
use Rattle.schema_types.proofs.Stages.{stage_name, stage_nullable}
use Rattle.schema_types.proofs.scope.Scope.answer.Goals as goal

pub returns-in_err-check_names : goal.returns-in_err-check_names
unfolding schema_or_refusal
returns-in_err-check_names c =
    let p = err_from_is_err_and c.from_residual.result c.from_residual.ensures.1 in
    rw (p.1, p.2) (stage_name (offences c.args.self.now.text.now c.args.self.now.tables.now) _ c.in_err-check_names.field-0.0 c.in_err-check_names.ensures)

pub returns-in_err-check_nullability : goal.returns-in_err-check_nullability
unfolding schema_or_refusal
returns-in_err-check_nullability c =
    let p = err_from_is_err_and c.from_residual-in_err-check_nullability.result c.from_residual-in_err-check_nullability.ensures.1 in
    rw (p.1, p.2, c.in_ok-check_names.ensures) (stage_nullable (nullable_offsets c.args.self.now.text.now c.args.self.now.tables.now) _ c.in_err-check_nullability.field-0.0 c.in_err-check_nullability.ensures)
