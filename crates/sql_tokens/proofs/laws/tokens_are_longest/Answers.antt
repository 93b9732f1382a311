use Rattle.sql_tokens.proofs.LongestFront.{longest_token}
use Rattle.sql_tokens.proofs.laws.tokens_are_longest.Goals as goal

pub returns : goal.returns
returns c = longest_token
