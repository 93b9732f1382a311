use Rattle.std.proofs.Common.{◌<◌, length, sum, ap, sym, ◌∙◌}
use Rattle.piece_math.specs.declared.weights.Child.{Child}
use Rattle.piece_math.proofs.Weighing.{children_exist, weights_first, weights_step}
use Rattle.piece_math.proofs.weights.row_weights.Goals as goal

pub loop-i-init : goal.loop-i-init
loop-i-init c =
    let some : 0 < length c.args.children.now = children_exist c.args.children.now (sym c.is_empty.ensures ∙ c.if-is_empty.false) in
    weights_first c.args.children.now c.args.rows c.in_ok-weights.weights c.index-children-0.result some c.index-children-0.is
    (ap (λ (child : Child). sum child.column) c.index-children-0.is ∙ c.requires.columns 0 c.index-children-0.result some)
    c.spread.ensures.lists c.in_ok-weights.ensures.value c.in_ok-weights.ensures.fits c.in_ok-weights.ensures.few_pieces

pub loop-i-preserved : goal.loop-i-preserved
loop-i-preserved c =
    weights_step c.args.children.now c.args.rows c.loop-i.i c.loop-i.weights c.in_ok-own.own c.in_ok-weights-2.weights c.index-children-i.result
    c.loop-i-test.true c.index-children-i.is
    (ap (λ (child : Child). sum child.column) c.index-children-i.is ∙ c.requires.columns c.loop-i.i c.index-children-i.result c.loop-i-test.true)
    c.spread-in-loop-i.ensures.lists c.in_ok-own.ensures.value c.in_ok-own.ensures.few_pieces c.in_ok-weights-2.ensures.value c.in_ok-weights-2.ensures.few_pieces c.loop-i.invariant
