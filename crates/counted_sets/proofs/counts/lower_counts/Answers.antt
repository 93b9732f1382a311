use Rattle.std.proofs.Common.{arith, refl, sym, subst, ◌<◌, ℕ, length, ◌-◌}
use Rattle.counted_sets.specs.Counts.{item_at, use_at}
use Rattle.counted_sets.proofs.Listing.{extends_more, extends_same}
use Rattle.counted_sets.proofs.Removing.{AreLowered, back_before, taken_at_start, taken_after_step, taken_some}
use Rattle.counted_sets.proofs.counts.lower_counts.Goals as goal

pub places-init : goal.places-init
places-init c = record {
  taken = taken_at_start c.args.uses.now c.args.item (length c.args.of_item.now.lasts.items) c.last-at.result c.args.of_item.now.lasts.items c.args.of_item.now.befores.items c.args.counts.now.items
      c.requires.chains c.requires.item c.last-at.ensures;
  listed = c.requires.listed;
  extends = extends_same c.args.work.now.items;
}

pub lower_count-requires-clause-some : goal.lower_count-requires-clause-some
lower_count-requires-clause-some c =
    let slot : ℕ = (use_at c.args.uses.now (c.places.at - 1)).gives in
    let slot_in_range : slot < length c.args.counts.now.items = c.requires.slots (c.places.at - 1) (record { item = 0; gives = 0; needs = 0 }) (omega (arith, c.places.invariant.taken.within)) in
    taken_some c.args.uses.now c.args.item c.places.at slot c.args.counts.now.items c.places.counts.items c.places-test.true refl slot_in_range (c.requires.enough slot slot_in_range) c.places.invariant.taken

pub places-preserved : goal.places-preserved
places-preserved c =
    let slot : ℕ = (use_at c.args.uses.now (c.places.at - 1)).gives in
    let slot_in_range : slot < length c.args.counts.now.items = c.requires.slots (c.places.at - 1) (record { item = 0; gives = 0; needs = 0 }) (omega (arith, c.places.invariant.taken.within)) in
    record {
      taken = subst (λ counts. AreLowered c.args.uses.now c.args.item c.args.counts.now.items counts c.before-at.result) (sym c.lower_count.ensures.counts)
          (taken_after_step c.args.uses.now c.args.item c.places.at slot c.before-at.result (length c.args.of_item.now.lasts.items) c.args.of_item.now.lasts.items c.args.of_item.now.befores.items c.args.counts.now.items c.places.counts.items
          c.requires.chains c.places-test.true refl c.before-at.ensures slot_in_range
          (taken_some c.args.uses.now c.args.item c.places.at slot c.args.counts.now.items c.places.counts.items c.places-test.true refl slot_in_range (c.requires.enough slot slot_in_range) c.places.invariant.taken) c.places.invariant.taken);
      listed = c.lower_count.ensures.listed;
      extends = extends_more c.args.work.now.items c.places.work.items c.lower_count.new.work.items c.places.invariant.extends c.lower_count.ensures.extends;
    }

pub places-smaller : goal.places-smaller
places-smaller c = back_before (item_at c.args.uses.now) c.places.at (length c.args.uses.now) c.before-at.result (length c.args.of_item.now.lasts.items) c.args.of_item.now.lasts.items c.args.of_item.now.befores.items c.requires.chains c.places-test.true
    c.places.invariant.taken.within c.before-at.ensures
