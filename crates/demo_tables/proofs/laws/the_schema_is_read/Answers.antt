use Rattle.demo_tables.proofs.SchemaRead.{schema_read}
use Rattle.demo_tables.proofs.laws.the_schema_is_read.Goals as goal

pub returns : goal.returns
returns c = schema_read
