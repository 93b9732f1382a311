use Rattle.query_bounds.proofs.Near.{near_whole}
use Rattle.query_bounds.proofs.laws.unfiltered_bounds_are_near.Goals as goal

pub returns : goal.returns
returns c = λ query known tables key accuracy subset whole fits. near_whole query known tables key accuracy whole subset fits
