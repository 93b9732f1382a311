use Rattle.std.proofs.Common.{◌∙◌, length, sym}
use Rattle.stats_reading.specs.Drafts.{empty_pair}
use Rattle.stats_reading.proofs.Ascending.{positive_if_not_zero, later_than}
use Rattle.stats_reading.proofs.begins.is_later.Goals as goal

pub returns : goal.returns
returns c =
    let same = later_than c.args.pairs.now (empty_pair c.args.filter c.args.joined) c.index-pairs-pairs.result c.index-pairs-pairs.is (positive_if_not_zero (length c.args.pairs.now) (sym c.is_empty.ensures ∙ c.if-is_empty.false)) c.requires in
    (λ t. same.0 (c.stands_before.ensures.0 t), λ all. c.stands_before.ensures.1 (same.1 all))
