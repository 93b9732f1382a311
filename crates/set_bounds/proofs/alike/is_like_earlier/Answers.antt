use Rattle.set_bounds.proofs.Skipping.{like_one}
use Rattle.set_bounds.proofs.alike.is_like_earlier.Goals as goal

pub returns-then-are_alike : goal.returns-then-are_alike
returns-then-are_alike c = λ told es subset turn own before.
    like_one es subset turn c.args.folded.now c.loop-earlier.earlier-index c.earlier-item.result c.args.kept.now c.loop-earlier-test.true c.earlier-item.is
    (c.are_alike.ensures c.if-are_alike.true) own before
