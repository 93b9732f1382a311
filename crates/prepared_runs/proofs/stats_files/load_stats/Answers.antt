use Rattle.std.proofs.lemmas.Result.{err_from_is_err_and}
use Rattle.prepared_runs.proofs.StatsFileStages.{stats_read, stats_refused, stats_spelled, stats_stops, stats_stops_by}
use Rattle.prepared_runs.proofs.stats_files.load_stats.Goals as goal

pub returns-in_err-text-clause-reads : goal.returns-in_err-text-clause-reads
returns-in_err-text-clause-reads g c =
    let p = err_from_is_err_and c.from_residual.result c.from_residual.ensures.1 in
    rw (p.1, p.2) (stats_stops c.args.name.now c.args.schema.now c.in_err-text.field-0.0 (rw c.get.ensures at c.in_err-text.ensures.reads))

pub returns-in_err-file-clause-reads : goal.returns-in_err-file-clause-reads
returns-in_err-file-clause-reads g c =
    let p = err_from_is_err_and c.from_residual-in_err-file.result c.from_residual-in_err-file.ensures.1 in
    rw (p.1, p.2) (stats_refused c.args.name.now c.args.schema.now _ c.as_slice.result.now _ c.as_slice.ensures
    (stats_stops_by c.args.schema.now c.as_slice.result.now c.requires.valid c.requires.bytes c.in_err-file.field-0.0 c.in_err-file.ensures) (rw c.get.ensures at c.in_ok-text.ensures.reads))

pub returns-clause-reads : goal.returns-clause-reads
returns-clause-reads g c =
    stats_spelled c.args.name.now c.args.schema.now _ c.as_slice.result.now c.in_ok-file.file c.as_slice.ensures
    (stats_read c.args.schema.now c.as_slice.result.now c.requires.valid c.requires.bytes c.in_ok-file.file c.in_ok-file.ensures) (rw c.get.ensures at c.in_ok-text.ensures.reads)
