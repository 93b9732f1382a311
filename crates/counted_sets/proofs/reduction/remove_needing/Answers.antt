use Rattle.std.proofs.Common.{arith, refl, sym, subst, ◌∙◌, ◌≡◌, ◌<◌, ◌-◌, ℕ, length}
use Rattle.counted_sets.specs.Counts.{CountsAreCorrect, IsSafe, item_at, need_at, giver_count}
use Rattle.counted_sets.specs.Sets.{marked}
use Rattle.counted_sets.proofs.Listing.{extends_more, extends_same}
use Rattle.counted_sets.proofs.Removing.{AreGoneFrom, back_before, gone_at_start, gone_after_step, safe_at_start, safe_after_step}
use Rattle.counted_sets.proofs.reduction.remove_needing.Goals as goal

pub places-init : goal.places-init
places-init c = record {
  gone = gone_at_start c.args.uses.now c.args.slot (length c.args.counts.now.items) c.last-at.result c.args.needing.now.lasts.items c.args.needing.now.befores.items c.args.marks.now.items c.requires.needs c.requires.slot c.last-at.ensures;
  safe = safe_at_start (length c.args.marks.now.items) c.args.uses.now c.args.marks.now.items;
  counted = c.requires.counted;
  extends = extends_same c.args.work.now.items;
}

pub places-smaller : goal.places-smaller
places-smaller c = back_before (need_at c.args.uses.now) c.places.at (length c.args.uses.now) c.before-at.result (length c.args.counts.now.items) c.args.needing.now.lasts.items c.args.needing.now.befores.items c.requires.needs c.places-test.true
    c.places.invariant.gone.within c.before-at.ensures

pub places-preserved : goal.places-preserved
places-preserved c =
    let uses = c.args.uses.now in
    let place : ℕ = c.places.at - 1 in
    let place_in_range : place < length uses = omega (arith, c.places.invariant.gone.within) in
    let none : giver_count (marked c.args.marks.now.items) uses c.args.slot (length uses) ≡ 0 = sym (c.requires.counted.counted c.args.slot c.requires.slot) ∙ c.requires.none in
    record {
      gone = subst (AreGoneFrom uses c.args.slot c.before-at.result) (sym c.remove.ensures.marks)
          (gone_after_step uses c.args.slot (length c.args.counts.now.items) c.places.at (item_at uses place) c.before-at.result c.args.needing.now.lasts.items c.args.needing.now.befores.items c.places.marks.items c.requires.needs c.places-test.true refl
          c.before-at.ensures c.places.invariant.gone);
      safe = subst (IsSafe (length c.args.marks.now.items) uses c.args.marks.now.items) (sym c.remove.ensures.marks)
          (safe_after_step (length c.args.marks.now.items) uses c.args.marks.now.items c.places.marks.items c.args.slot place none place_in_range (c.places.invariant.gone.here c.places-test.true) c.places.invariant.safe);
      counted = subst (λ n. CountsAreCorrect n (length c.args.counts.now.items) uses c.remove.new.marks.items c.remove.new.counts.items c.remove.new.work) c.places.invariant.counted.item_count
          (subst (λ n. CountsAreCorrect (length c.places.marks.items) n uses c.remove.new.marks.items c.remove.new.counts.items c.remove.new.work) c.places.invariant.counted.slot_count c.remove.ensures.counted);
      extends = extends_more c.args.work.now.items c.places.work.items c.remove.new.work.items c.places.invariant.extends c.remove.ensures.extends;
    }
