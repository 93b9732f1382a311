use Rattle.std.proofs.Common.{arith, refl, subst, ◌≡◌, ◌+◌, List, length, slice_index}
use Rattle.counted_sets.specs.declared.uses.Use.{Use}
use Rattle.reduced_scans.specs.Wiring.{AddsUses}
use Rattle.reduced_scans.proofs.UseFacts.{uses_at_start, uses_after_step}
use Rattle.reduced_scans.proofs.wiring.add_side.Goals as goal

pub rows-init : goal.rows-init
rows-init c = record {
  adds = uses_at_start c.args.equality c.args.on_left c.args.first c.args.cells.now c.args.list.now c.args.known_values.now c.reserve.new.self.items;
  spare = omega (arith, c.in_ok-reserve.ensures.ok);
}

pub add_use-requires-clause-few : goal.add_use-requires-clause-few
add_use-requires-clause-few c = omega (arith, c.rows.invariant.adds.few, c.requires.few)

pub add_use-requires-clause-room : goal.add_use-requires-clause-room
add_use-requires-clause-room c = omega (arith, c.rows.invariant.spare)

pub rows-preserved : goal.rows-preserved
rows-preserved c =
    let added = c.in_ok-add_use.ensures.added in
    record {
      adds = uses_after_step c.args.equality c.args.on_left c.args.first c.args.cells.now c.args.list.now c.rows.at c.args.known_values.now c.rows.known_values c.add_use.new.known_values c.reserve.new.self.items c.rows.uses.items c.add_use.new.uses.items
          added.0 (slice_index c.args.cells.now (slice_index c.args.list.now c.rows.at)) (c.args.first + c.rows.at) c.rows.invariant.adds c.in_ok-add_use.ensures.begins c.in_ok-add_use.ensures.few added.1 refl refl added.2;
      spare = omega (arith, c.in_ok-add_use.ensures.spare, c.rows.invariant.spare);
    }

pub returns : goal.returns
returns c =
    let ended : c.rows.at ≡ length c.args.list.now = omega arith in
    subst (λ (uses : List Use). AddsUses c.args.equality c.args.on_left c.args.first c.args.cells.now c.args.list.now (length c.args.list.now) c.args.known_values.now c.rows.known_values uses c.rows.uses.items) c.in_ok-reserve.ensures.items
    (subst (λ n. AddsUses c.args.equality c.args.on_left c.args.first c.args.cells.now c.args.list.now n c.args.known_values.now c.rows.known_values c.reserve.new.self.items c.rows.uses.items) ended c.rows.invariant.adds)
