use Rattle.std.proofs.Common.{arith, length, sym, ◌∙◌, ◌<◌, length-append, [], ◌∷◌}
use Rattle.counted_sets.proofs.Listing.{slots_after_positive_count, slots_after_zero_count}
use Rattle.counted_sets.proofs.counts.slots_of_count_zero.Goals.{then-count-eq0, else-count-eq0}
use Rattle.counted_sets.proofs.counts.slots_of_count_zero.Goals as goal

pub slots-preserved : goal.slots-preserved
slots-preserved c =
    let in_range : c.slots.slot < length c.args.counts.now.items = omega arith in
    elim c.if-count-eq0.branch [
      | then-count-eq0 w ↦ record {
        listed = rw (w.work-is, w.push.ensures.items)
            (slots_after_zero_count c.args.counts.now.items c.slots.work.items c.slots.slot in_range (c.get-count.ensures 0 ∙ w.if-count-eq0.true) c.slots.invariant.listed);
        room = rw (w.work-is, w.push.ensures.items)
            (omega (arith, w.push.ensures.spare, c.slots.invariant.room, length-append c.slots.work.items (c.slots.slot ∷ [])));
      }
      | else-count-eq0 w ↦ record {
        listed = rw w.work-is (slots_after_positive_count c.args.counts.now.items c.slots.work.items c.slots.slot in_range (λ is. w.if-count-eq0.false (sym (c.get-count.ensures 0) ∙ is)) c.slots.invariant.listed);
        room = rw w.work-is c.slots.invariant.room;
      }
    ]
