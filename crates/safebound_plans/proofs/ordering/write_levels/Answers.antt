use Rattle.std.proofs.Common.{◌<◌, List, length, refl, ap, subst, arith}
use Rattle.safebound_plans.specs.Orders.{AreLevels}
use Rattle.safebound_plans.proofs.Filling.{all_levels, no_level_is_written_yet, one_more_level}
use Rattle.safebound_plans.proofs.ordering.write_levels.Goals as goal

pub loop-place-init : goal.loop-place-init
loop-place-init c = no_level_is_written_yet c.as_slice-order.result.now c.as_slice-levels.result.now c.args.into.now

pub bounds-levels-place : goal.bounds-levels-place
bounds-levels-place c =
    omega (arith, c.loop-place-test.true, ap length c.as_slice-order.ensures, ap length c.as_slice-levels.ensures, c.requires.plan.levels)

pub loop-place-preserved : goal.loop-place-preserved
loop-place-preserved c =
    let low : c.loop-place.place < length c.as_slice-order.result.now = c.loop-place-test.true in
    one_more_level c.as_slice-order.result.now c.as_slice-levels.result.now c.args.into.now c.loop-place.into c.loop-place.place _ c.loop-place.invariant low
    (omega (arith, low, ap length c.as_slice-order.ensures, ap length c.as_slice-levels.ensures, c.requires.plan.levels))
    (omega (arith, low, ap length c.as_slice-order.ensures, c.requires.room)) c.from.ensures refl

pub returns : goal.returns
returns c =
    subst (λ (s : List _). AreLevels s c.args.plan.now.levels c.args.into.now c.loop-place.into) c.as_slice-order.ensures
    (subst (λ (s : List _). AreLevels c.as_slice-order.result.now s c.args.into.now c.loop-place.into) c.as_slice-levels.ensures
    (all_levels c.as_slice-order.result.now c.as_slice-levels.result.now c.args.into.now c.loop-place.into c.loop-place.place c.loop-place.invariant
    (omega (arith, c.loop-place-test.false, c.loop-place.auto.place-end))
    (omega (arith, c.loop-place-test.false, ap length c.as_slice-order.ensures, ap length c.as_slice-levels.ensures, c.requires.plan.levels))))
