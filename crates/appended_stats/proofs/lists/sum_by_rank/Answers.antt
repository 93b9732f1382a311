use Rattle.std.proofs.Common.{◌≡◌, map}
use Rattle.std.proofs.lemmas.Result.{IfOk-weaker}
use Rattle.degree_sequences.specs.ByRank.{rank_sum}
use Rattle.degree_sequences.specs.Saturation.{saturated}
use Rattle.appended_stats.proofs.Small.{added_exactly}
use Rattle.appended_stats.proofs.lists.sum_by_rank.Goals as goal

pub returns : goal.returns
returns c =
    IfOk-weaker c.sum.result (λ r. r ≡ map saturated (rank_sum c.args.list.now c.args.other.now)) (λ r. r ≡ rank_sum c.args.list.now c.args.other.now)
    (λ r is. added_exactly c.args.list.now c.args.other.now r c.requires.list c.requires.other is) c.sum.ensures.value
