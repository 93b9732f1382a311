use Rattle.std.proofs.Common.{◌≡◌, ℕ, ◌-◌, ◌^◌, sym, subst, arith, min}
use Rattle.std.specs.Prelude.{bit_and}
use Rattle.std.proofs.lemmas.Nat.{pow_pos}
use Rattle.bushy_plan.proofs.Lightest.{LeastOfTried, least_of_one, least_of_tried, tried_more, tried_none}
use Rattle.bushy_plan.proofs.Parts.{next_less, part_le}
use Rattle.bushy_plan.proofs.table.least_weight.Goals as goal

pub returns-then-all_but_first-eq0 : goal.returns-then-all_but_first-eq0
returns-then-all_but_first-eq0 c =
    least_of_one c.args.weight c.args.bounds.now c.args.set c.without_first-all_but_first.ensures.first c.without_first-all_but_first.ensures.is_first (omega (arith, c.without_first-all_but_first.ensures.others))

pub splits-init : goal.splits-init
splits-init c = tried_none c.args.weight c.args.bounds.now c.args.table.now c.args.set c.without_first-all_but_first.result

pub weight_through-requires-clause-part : goal.weight_through-requires-clause-part
weight_through-requires-clause-part c =
    let all_but_first : c.without_first-all_but_first.result ≡ c.args.set - 2 ^ c.without_first-all_but_first.ensures.first = c.without_first-all_but_first.ensures.others in
    omega (arith, part_le c.splits.right c.without_first-all_but_first.result c.splits.invariant.is_part, all_but_first, pow_pos c.without_first-all_but_first.ensures.first, c.requires.not_empty)

pub splits-preserved : goal.splits-preserved
splits-preserved c =
    let more : LeastOfTried c.args.weight c.args.bounds.now c.args.table.now c.args.set c.without_first-all_but_first.result (bit_and (c.splits.right - 1) c.without_first-all_but_first.result) (min c.splits.least c.weight_through.result) =
    tried_more c.args.weight c.args.bounds.now c.args.table.now c.args.set c.without_first-all_but_first.result c.splits.right c.splits.least c.weight_through.result
    c.splits.invariant c.splits-test.true c.weight_through.ensures c.weight_through.type_inv in
    subst (λ (least : ℕ). LeastOfTried c.args.weight c.args.bounds.now c.args.table.now c.args.set c.without_first-all_but_first.result (bit_and (c.splits.right - 1) c.without_first-all_but_first.result) least)
    (sym c.min-least.ensures) more

pub splits-smaller : goal.splits-smaller
splits-smaller c = next_less c.splits.right c.without_first-all_but_first.result c.splits-test.true

pub returns : goal.returns
returns c =
    let none_left : c.splits.right ≡ 0 = omega arith in
    least_of_tried c.args.weight c.args.bounds.now c.args.table.now c.args.set c.without_first-all_but_first.ensures.first c.splits.least
    c.without_first-all_but_first.ensures.is_first (omega (arith, c.without_first-all_but_first.ensures.others, c.if-all_but_first-eq0.false)) c.requires.table
    (subst (λ (all_but_first : ℕ). LeastOfTried c.args.weight c.args.bounds.now c.args.table.now c.args.set all_but_first 0 c.splits.least) c.without_first-all_but_first.ensures.others
    (subst (λ (right : ℕ). LeastOfTried c.args.weight c.args.bounds.now c.args.table.now c.args.set c.without_first-all_but_first.result right c.splits.least) none_left c.splits.invariant))
