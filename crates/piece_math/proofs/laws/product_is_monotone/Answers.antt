use Rattle.degree_sequences.proofs.ByRank.{rank_product_of-above}
use Rattle.piece_math.proofs.laws.product_is_monotone.Goals as goal

pub returns : goal.returns
returns c = rank_product_of-above
