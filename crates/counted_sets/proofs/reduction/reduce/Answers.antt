use Rattle.std.proofs.Common.{arith, sym, subst, ◌<◌, ◌≤◌, ◌≡◌, length}
use Rattle.counted_sets.specs.Counts.{CountsAreCorrect, IsSafe}
use Rattle.counted_sets.proofs.Removing.{reduced, reducing_at_start, reducing_after_step, slot_count_is_zero, slot_within}
use Rattle.counted_sets.proofs.reduction.reduce.Goals as goal

pub work-init : goal.work-init
work-init c = reducing_at_start c.args.items c.args.slots c.args.uses.now c.fill.new.self.items c.in_ok-counts.counts.items c.in_ok-work.work
    (λ k k_in_range. (c.requires.uses k (record { item = 0; gives = 0; needs = 0 }) k_in_range).item) c.fill.ensures.items c.in_ok-counts.ensures.length c.in_ok-counts.ensures.counts c.in_ok-work.ensures

pub remove_needing-requires-clause-slot : goal.remove_needing-requires-clause-slot
remove_needing-requires-clause-slot c =
    let in_range : c.work.at < length c.work.work.items = omega arith in
    slot_within c.args.items c.args.slots c.args.uses.now c.work.marks.items c.work.counts.items c.work.work c.work.at c.get-slot.result in_range (sym (c.get-slot.ensures 0)) c.work.invariant

pub remove_needing-requires-clause-none : goal.remove_needing-requires-clause-none
remove_needing-requires-clause-none c =
    let in_range : c.work.at < length c.work.work.items = omega arith in
    slot_count_is_zero c.args.items c.args.slots c.args.uses.now c.work.marks.items c.work.counts.items c.work.work c.work.at c.get-slot.result in_range (sym (c.get-slot.ensures 0)) c.work.invariant

pub work-preserved : goal.work-preserved
work-preserved c =
    let in_range : c.work.at < length c.work.work.items = omega arith in
    let items : length c.work.marks.items ≡ c.args.items = c.work.invariant.counted.item_count in
    let slots : length c.work.counts.items ≡ c.args.slots = c.work.invariant.counted.slot_count in
    reducing_after_step c.args.items c.args.slots c.args.uses.now c.work.marks.items c.remove_needing.new.marks.items c.work.counts.items c.remove_needing.new.counts.items c.work.work c.remove_needing.new.work c.work.at c.get-slot.result
    in_range (sym (c.get-slot.ensures 0)) c.work.invariant c.remove_needing.ensures.gone
    (subst (λ n. IsSafe n c.args.uses.now c.work.marks.items c.remove_needing.new.marks.items) items c.remove_needing.ensures.safe)
    (subst (λ n. CountsAreCorrect n c.args.slots c.args.uses.now c.remove_needing.new.marks.items c.remove_needing.new.counts.items c.remove_needing.new.work) items
    (subst (λ n. CountsAreCorrect (length c.work.marks.items) n c.args.uses.now c.remove_needing.new.marks.items c.remove_needing.new.counts.items c.remove_needing.new.work) slots c.remove_needing.ensures.counted))
    c.remove_needing.ensures.extends

pub returns-clause-greatest : goal.returns-clause-greatest
returns-clause-greatest c =
    let ended : length c.work.work.items ≤ c.work.at = omega arith in
    reduced c.args.items c.args.slots c.args.uses.now c.work.marks.items c.work.counts.items c.work.work c.work.at (λ k k_in_range. (c.requires.uses k (record { item = 0; gives = 0; needs = 0 }) k_in_range).needs) ended c.work.invariant
