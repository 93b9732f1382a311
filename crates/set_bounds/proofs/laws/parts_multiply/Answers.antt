use Rattle.set_bounds.proofs.Parted.{parts_multiply}
use Rattle.set_bounds.proofs.laws.parts_multiply.Goals as goal

pub returns : goal.returns
returns c = parts_multiply
