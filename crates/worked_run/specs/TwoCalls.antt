-- A call of `stats` over the small tables, and a call of `plan --stats` over any files.
use Rattle.std.specs.Prelude.{codes, false, None}
use Rattle.base_io.specs.Files.{Files}
use Rattle.safebound_words.specs.Commands.{terms_by}
use Rattle.safebound_top.specs.Call.{Call}
use Rattle.safebound_laws.specs.FileCalls.{PlanCall, StatsCall}
use Rattle.worked_run.specs.TwoTables.{small_files}

abbrev pub stats_call : Call → StatsCall
stats_call call = record { call = call; files = small_files; schema_file = codes "schema.sql"; query_file = codes "query.sql"; accuracy = 1 }

abbrev pub plan_call : Call → Files → PlanCall
plan_call call files = record {
  call = call;
  files = files;
  schema_file = codes "schema.sql";
  query_file = codes "query.sql";
  stats_file = codes "rs.stats";
  terms = terms_by 1000000 false None;
}
