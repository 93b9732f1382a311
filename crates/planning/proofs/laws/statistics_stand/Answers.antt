use Rattle.planning.proofs.Facts.{some_keys}
use Rattle.planning.proofs.laws.statistics_stand.Goals as goal

pub returns : goal.returns
returns c = some_keys
