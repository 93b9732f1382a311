use Rattle.std.proofs.Common.{◌≡◌, ◌+◌, ◌*◌, min, ap, ◌∙◌, arith, inl, inr}
use Rattle.degree_sequences.specs.Saturation.{saturated}
use Rattle.piece_math.specs.declared.pieces.Piece.{Piece}
use Rattle.piece_math.specs.PiecePlaces.{ahead_of}
use Rattle.piece_math.proofs.BlockSums.{block_start, block_step, block_sum, block_rest, block_onward}
use Rattle.piece_math.proofs.blocks.block_from.Goals as goal

pub loop-left-init : goal.loop-left-init
loop-left-init c = block_start c.args.weights.now c.args.start c.args.rows c.requires.start

pub ahead-run-requires : goal.ahead-run-requires
ahead-run-requires c = c.loop-left.invariant.place

pub place_after-next-requires-clause-place : goal.place_after-next-requires-clause-place
place_after-next-requires-clause-place c = c.loop-left.invariant.place

pub loop-left-preserved : goal.loop-left-preserved
loop-left-preserved c =
    rw c.from-left.ensures
    (block_step c.loop-left.invariant c.if-next-weights.true c.place_after-next.result c.min-count.result c.ahead-run.result.value c.saturating_add-sum.result
    (c.min-count.ensures ∙ ap (min c.loop-left.left) (c.from.ensures ∙ ap (λ (p : Piece). p.count) c.ahead-run.ensures))
    (ap (λ (p : Piece). p.value) c.ahead-run.ensures)
    (c.saturating_add-sum.ensures ∙ ap (λ n. saturated (c.loop-left.sum + n)) (c.saturating_mul.ensures ∙ ap (λ n. saturated (c.ahead-run.result.value * n)) c.from-in-loop-left.ensures))
    c.place_after-next.ensures.rest c.place_after-next.ensures.place c.place_after-next.ensures.stays c.place_after-next.ensures.ends c.loop-left-test.true)

pub loop-left-smaller : goal.loop-left-smaller
loop-left-smaller c =
    let same_count : c.ahead-run.result.count ≡ (ahead_of c.args.weights.now c.loop-left.next).count = ap (λ (p : Piece). p.count) c.ahead-run.ensures in
    omega (arith, c.from-left.ensures, c.min-count.ensures, c.from.ensures, same_count, c.loop-left.invariant.place.inside, c.loop-left-test.true)

pub returns-else-next-weights-clause-sum : goal.returns-else-next-weights-clause-sum
returns-else-next-weights-clause-sum c = block_sum c.loop-left.invariant (inr c.if-next-weights.false)

pub returns-else-next-weights-clause-rest : goal.returns-else-next-weights-clause-rest
returns-else-next-weights-clause-rest c = block_rest c.loop-left.invariant (inr c.if-next-weights.false)

pub returns-else-next-weights-clause-next : goal.returns-else-next-weights-clause-next
returns-else-next-weights-clause-next c = c.loop-left.invariant.place

pub returns-after-loop-left-clause-sum : goal.returns-after-loop-left-clause-sum
returns-after-loop-left-clause-sum c = block_sum c.loop-left.invariant (inl (omega (arith, c.loop-left-test.false)))

pub returns-after-loop-left-clause-rest : goal.returns-after-loop-left-clause-rest
returns-after-loop-left-clause-rest c = block_rest c.loop-left.invariant (inl (omega (arith, c.loop-left-test.false)))

pub returns-after-loop-left-clause-next : goal.returns-after-loop-left-clause-next
returns-after-loop-left-clause-next c = c.loop-left.invariant.place

pub returns-after-loop-left-clause-onward : goal.returns-after-loop-left-clause-onward
returns-after-loop-left-clause-onward c = block_onward c.loop-left.invariant (inl (omega (arith, c.loop-left-test.false)))
