use Rattle.degree_sequences.proofs.RowWeights.{composed-above}
use Rattle.piece_math.proofs.laws.compose_is_monotone.Goals as goal

pub returns : goal.returns
returns c = composed-above
