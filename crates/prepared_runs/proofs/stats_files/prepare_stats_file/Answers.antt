use Rattle.std.proofs.lemmas.Result.{err_from_is_err_and}
use Rattle.prepared_runs.proofs.StatsFileStages.{file_made, file_stops, file_wants}
use Rattle.prepared_runs.proofs.stats_files.prepare_stats_file.Goals as goal

pub returns-in_err-db-clause-reads : goal.returns-in_err-db-clause-reads
returns-in_err-db-clause-reads g c =
    let p = err_from_is_err_and c.from_residual.result c.from_residual.ensures.1 in
    rw (p.1, p.2) (file_stops c.args.accuracy c.args.schema.now c.args.query _ c.in_err-db.field-0.0 c.in_err-db.ensures.reads)

pub stats_file_of_tables-requires-clause-over : goal.stats_file_of_tables-requires-clause-over
stats_file_of_tables-requires-clause-over g c = record {
  schema_is = c.requires.schema;
  query_is = c.requires.query;
  database = c.in_ok-db.ensures.database;
  cells = c.in_ok-db.ensures.cells;
}

pub returns-in_err-made_stats-clause-reads : goal.returns-in_err-made_stats-clause-reads
returns-in_err-made_stats-clause-reads g c =
    let p = err_from_is_err_and c.from_residual-in_err-made_stats.result c.from_residual-in_err-made_stats.ensures.1 in
    rw (p.1, p.2) (file_wants c.args.accuracy c.args.schema.now c.args.query _ _ c.in_ok-db.ensures.reads)

pub returns-clause-reads : goal.returns-clause-reads
returns-clause-reads g c =
    file_made c.args.accuracy c.args.schema.now c.args.query _ _ _ c.in_ok-made_stats.ensures.made_stats c.in_ok-db.ensures.reads
