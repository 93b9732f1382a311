use Rattle.planning.proofs.NearColumns.{near_columns}
use Rattle.planning.proofs.laws.bounds_are_near.Goals as goal

pub returns : goal.returns
returns c = λ query tables accuracy subset none fits. near_columns tables query accuracy subset none fits
