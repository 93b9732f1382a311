use Rattle.demo_tables.proofs.Absences.{query_there, schema_there, tables_miss}
use Rattle.demo_tables.proofs.laws.no_file_is_absent.Goals as goal

pub returns : goal.returns
returns c = record {
  schema = λ number. schema_there number;
  query = λ number. query_there number;
  tables = λ number schema query read_as of. tables_miss number schema query read_as of;
}
