use Rattle.schema_grammar.proofs.Ends.{one_schema}
use Rattle.schema_grammar.proofs.one_meaning.Goals as goal

pub returns : goal.returns
returns c = one_schema
