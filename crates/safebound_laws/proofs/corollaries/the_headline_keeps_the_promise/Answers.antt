use Rattle.safebound_top.proofs.Promises.{keeps_promise}
use Rattle.safebound_laws.proofs.corollaries.the_headline_keeps_the_promise.Goals as goal

pub returns : goal.returns
returns c = λ call headline. keeps_promise call headline
