use Rattle.bench_fold.proofs.TestResults.{some_or_not}
use Rattle.bench_fold.proofs.listed.has_rows.Goals as goal

pub returns : goal.returns
returns c = some_or_not c.rows.result _ c.is_some.result c.rows.ensures c.is_some.ensures
