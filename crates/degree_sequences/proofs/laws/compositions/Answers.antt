use Rattle.degree_sequences.proofs.RowWeights.{running_sum-composition, IsDescending-composed}
use Rattle.degree_sequences.proofs.laws.compositions.Goals as goal

pub returns-clause-blocks : goal.returns-clause-blocks
returns-clause-blocks c = running_sum-composition

pub returns-clause-descends : goal.returns-clause-descends
returns-clause-descends c = IsDescending-composed
