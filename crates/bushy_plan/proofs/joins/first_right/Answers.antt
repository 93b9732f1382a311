use Rattle.std.proofs.Common.{length, sym, ◌∙◌}
use Rattle.bushy_plan.proofs.ReadingOff.{found_is_first, not_found_at_next, not_found_at_first, right_below_set}
use Rattle.bushy_plan.proofs.Parts.{next_less}
use Rattle.bushy_plan.proofs.joins.first_right.Goals as goal

pub splits-init : goal.splits-init
splits-init c = not_found_at_first c.args.weight c.args.bounds.now c.args.table.now c.args.set c.args.all_but_first c.requires.more

pub weight_through-requires-clause-part : goal.weight_through-requires-clause-part
weight_through-requires-clause-part c = right_below_set c.args.weight c.args.bounds.now c.args.table.now c.args.set c.args.all_but_first c.splits.right c.requires.all_but_first c.splits.invariant

pub splits-preserved : goal.splits-preserved
splits-preserved c =
    not_found_at_next c.args.weight c.args.bounds.now c.args.table.now c.args.set (length c.args.bounds.now) c.args.all_but_first c.splits.right
    c.requires.all_but_first c.requires.more c.requires.set c.requires.table c.splits.invariant (λ same. c.splits-test.true (c.weight_through.ensures ∙ same))

pub splits-smaller : goal.splits-smaller
splits-smaller c = next_less c.splits.right c.args.all_but_first c.splits.invariant.not_empty

pub returns : goal.returns
returns c =
    found_is_first c.args.weight c.args.bounds.now c.args.table.now c.args.set c.args.all_but_first c.splits.right c.requires.all_but_first c.splits.invariant
    (sym c.weight_through.ensures ∙ c.splits-test.false)
