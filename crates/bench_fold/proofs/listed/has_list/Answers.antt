use Rattle.bench_fold.proofs.TestResults.{copied_or_not}
use Rattle.bench_fold.proofs.listed.has_list.Goals as goal

pub returns : goal.returns
returns c = copied_or_not c.list.result _ c.is_some.result c.list.ensures c.is_some.ensures
