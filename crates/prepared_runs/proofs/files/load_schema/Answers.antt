use Rattle.std.proofs.lemmas.Result.{err_from_is_err_and}
use Rattle.stats_answers.proofs.ByteNames.{declared_bytes}
use Rattle.prepared_runs.proofs.Answered.{schema_read, schema_stops_by}
use Rattle.prepared_runs.proofs.Stages.{schema_refused, schema_spelled, schema_stops}
use Rattle.prepared_runs.proofs.files.load_schema.Goals as goal

pub returns-in_err-text-clause-reads : goal.returns-in_err-text-clause-reads
returns-in_err-text-clause-reads g c =
    let p = err_from_is_err_and c.from_residual.result c.from_residual.ensures.1 in
    rw (p.1, p.2) (schema_stops c.args.name.now c.in_err-text.field-0.0 (rw c.get.ensures at c.in_err-text.ensures.reads))

pub returns-in_err-schema-clause-reads : goal.returns-in_err-schema-clause-reads
returns-in_err-schema-clause-reads g c =
    let p = err_from_is_err_and c.from_residual-in_err-schema.result c.from_residual-in_err-schema.ensures.1 in
    rw (p.1, p.2) (schema_refused c.args.name.now _ c.as_slice.result.now _ c.as_slice.ensures (schema_stops_by c.as_slice.result.now c.in_err-schema.field-0.0 c.in_err-schema.ensures.meaning) (rw c.get.ensures at c.in_ok-text.ensures.reads))

pub returns-clause-reads : goal.returns-clause-reads
returns-clause-reads g c =
    schema_spelled c.args.name.now _ c.as_slice.result.now c.in_ok-schema.schema c.as_slice.ensures (schema_read c.as_slice.result.now c.in_ok-schema.schema c.in_ok-schema.ensures.meaning) (rw c.get.ensures at c.in_ok-text.ensures.reads)

pub returns-clause-bytes : goal.returns-clause-bytes
returns-clause-bytes g c = declared_bytes c.as_slice.result.now c.in_ok-schema.schema c.in_ok-schema.ensures.meaning
