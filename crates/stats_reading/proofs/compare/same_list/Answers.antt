use Rattle.stats_reading.proofs.CodeFacts.{same_pieces_same_list}
use Rattle.stats_reading.proofs.compare.same_list.Goals as goal

pub returns : goal.returns
returns c =
    let p = c.pieces.ensures in
    let q = c.pieces-2.ensures in
    let same = same_pieces_same_list c.args.a.now c.args.b.now c.pieces.result.now c.pieces-2.result.now p.stands_for q.stands_for p.whole q.whole in
    (λ t. same.0 (c.same_pieces.ensures.0 t), λ e. c.same_pieces.ensures.1 (same.1 e))
