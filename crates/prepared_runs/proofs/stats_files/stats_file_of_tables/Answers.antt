use Rattle.std.proofs.Common.{ap, sym, ◌∙◌}
use Rattle.stats_file_of_query.specs.Files.{file_of_query}
use Rattle.sql_meaning.specs.Tables.{Tables}
use Rattle.stats_file.specs.declared.types.StatsFile.{StatsFile}
use Rattle.table_files.specs.EntryTables.{entry_rows}
use Rattle.prepared_runs.specs.RunOutcome.{StatsMade}
use Rattle.prepared_runs.proofs.stats_files.stats_file_of_tables.Goals as goal

pub returns-clause-made_stats : goal.returns-clause-made_stats
returns-clause-made_stats c =
    let schema = c.args.schema.now in
    let query = c.args.query in
    let rows = entry_rows c.args.db in
    ap (λ (file : StatsFile). StatsMade (record { schema = schema; query = query; rows = rows; file = file }))
    (c.in_ok-file.ensures.file ∙ ap (λ (t : Tables). file_of_query schema query t c.args.accuracy) (sym c.requires.tables))
