use Rattle.std.proofs.Common.{length, refl, ◌∙◌}
use Rattle.column_stats.proofs.Columns.{sorted_are}
use Rattle.column_stats.proofs.gathering.gather_sorted.Goals as goal

pub returns : goal.returns
returns c =
    sorted_are c.args.accuracy (length c.args.joined.now) c.args.column.now c.args.joined.now c.args.kind c.in_ok-whole.whole c.in_ok-frequent.frequent c.in_ok-rest.rest c.from_vec.result
    c.in_ok-nodes.nodes c.requires.joined c.requires.kind refl c.in_ok-whole.ensures.list c.in_ok-frequent.ensures c.in_ok-rest.ensures
    (c.from_vec.ensures ∙ c.in_ok-cuts.ensures.items ∙ c.cuts.ensures) c.in_ok-nodes.ensures
