use Rattle.std.proofs.Common.{◌∙◌, sym}
use Rattle.sql_tokens.specs.Words.{name_of}
use Rattle.schema_types.specs.Index.{table_index}
use Rattle.schema_types.proofs.Targets.{indexed_within}
use Rattle.schema_types.proofs.scope.Scope.reference.Goals as goal

pub get-requires : goal.get-requires
get-requires c =
    indexed_within (table_index c.args.self.now.text.now) c.args.self.now.text.now c.args.self.now.tables.now c.args.self.now.indexes
    (name_of c.args.self.now.text.now c.args.target.now.table) c.in-Some.table c.args.self.now.indexed (sym c.in_ok-table_number.ensures ∙ c.in-Some.is)
