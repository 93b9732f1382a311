use Rattle.std.proofs.Common.{refl, arith}
use Rattle.std.proofs.lemmas.Result.{err_from_is_err_and}
use Rattle.outcomes.specs.Reads.{mapped}
use Rattle.prepared_runs.specs.PreparedRun.{appended_from}
use Rattle.prepared_runs.proofs.AppendStages.{section_ran, section_stops}
use Rattle.prepared_runs.proofs.append.append_to.Goals as goal

pub returns-in_err-found-clause-reads : goal.returns-in_err-found-clause-reads
returns-in_err-found-clause-reads g c =
    let p = err_from_is_err_and c.from_residual.result c.from_residual.ensures.1 in
    rw (p.1, p.2) (section_stops c.args.append.now c.args.schema.now c.args.stats _ c.in_err-found.field-0.0 c.in_err-found.ensures.section_rows refl (omega arith) refl)

pub returns-clause-reads : goal.returns-clause-reads
returns-clause-reads g c =
    section_ran c.args.append.now c.args.schema.now c.args.stats c.in_ok-found.found (mapped (appended_from c.args.schema.now) c.append_read.result)
    c.in_ok-found.ensures.section_rows c.append_read.ensures.reads
