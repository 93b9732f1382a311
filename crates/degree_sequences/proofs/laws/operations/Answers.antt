use Rattle.degree_sequences.proofs.Minima.{running_sum-lesser, running_sum-capped_at, IsDescending-lesser, IsDescending-capped_at}
use Rattle.degree_sequences.proofs.ByRank.{get_or-rank_product, get_or-rank_sum, get_or-rank_maximum, IsDescending-rank_product, IsDescending-rank_sum, IsDescending-rank_maximum}
use Rattle.degree_sequences.proofs.laws.operations.Goals as goal

pub returns-clause-lesser : goal.returns-clause-lesser
returns-clause-lesser c = running_sum-lesser

pub returns-clause-cut : goal.returns-clause-cut
returns-clause-cut c = running_sum-capped_at

pub returns-clause-product : goal.returns-clause-product
returns-clause-product c = get_or-rank_product

pub returns-clause-sum : goal.returns-clause-sum
returns-clause-sum c = get_or-rank_sum

pub returns-clause-maximum : goal.returns-clause-maximum
returns-clause-maximum c = get_or-rank_maximum

pub returns-clause-lesser_falls : goal.returns-clause-lesser_falls
returns-clause-lesser_falls c = IsDescending-lesser

pub returns-clause-cut_falls : goal.returns-clause-cut_falls
returns-clause-cut_falls c = IsDescending-capped_at

pub returns-clause-product_falls : goal.returns-clause-product_falls
returns-clause-product_falls c = IsDescending-rank_product

pub returns-clause-sum_falls : goal.returns-clause-sum_falls
returns-clause-sum_falls c = IsDescending-rank_sum

pub returns-clause-maximum_falls : goal.returns-clause-maximum_falls
returns-clause-maximum_falls c = IsDescending-rank_maximum
