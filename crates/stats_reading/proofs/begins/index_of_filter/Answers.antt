use Rattle.std.proofs.Common.{◌∙◌, length, sym}
use Rattle.stats_reading.proofs.Ascending.{positive_if_not_zero, no_pair_with_filter}
use Rattle.stats_reading.proofs.begins.index_of_filter.Goals as goal

pub returns-else-pairs-last : goal.returns-else-pairs-last
returns-else-pairs-last c =
    no_pair_with_filter c.args.pairs.now c.args.filter c.index-pairs-last.result (positive_if_not_zero (length c.args.pairs.now) (sym c.is_empty.ensures ∙ c.if-is_empty.false)) c.requires.ascend c.requires.none_later c.if-pairs-last.false
