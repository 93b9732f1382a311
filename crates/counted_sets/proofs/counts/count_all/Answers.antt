use Rattle.std.proofs.Common.{arith, ℕ, true, ◌<◌}
use Rattle.counted_sets.specs.Counts.{use_at}
use Rattle.counted_sets.proofs.GiverCounts.{giver_count-within}
use Rattle.counted_sets.proofs.counts.count_all.Goals as goal

pub overflow_add-count : goal.overflow_add-count
overflow_add-count c =
    let slot : ℕ = (use_at c.args.uses.now c.uses.k).gives in
    let slot_in_range : slot < c.args.slots = c.requires.slots c.uses.k (record { item = 0; gives = 0; needs = 0 }) (omega arith) in
    omega (arith, c.get-count.ensures 0, c.uses.invariant.counted slot slot_in_range, giver_count-within (λ item. true) c.args.uses.now slot c.uses.k, c.requires.few)
