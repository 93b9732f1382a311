use Rattle.degree_sequences.proofs.Scaling.{composed-near}
use Rattle.piece_math.proofs.laws.compose_scales.Goals as goal

pub returns : goal.returns
returns c = composed-near
