use Rattle.query_grammar.proofs.Whole.{one_query}
use Rattle.query_grammar.proofs.parser.one_meaning.Goals as goal

pub returns : goal.returns
returns c = one_query
