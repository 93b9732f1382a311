use Rattle.std.proofs.Common.{length, ap, arith}
use Rattle.safebound_bounds.specs.InSets.{known_by}
use Rattle.safebound_bounds.specs.Meaning.{edges_of}
use Rattle.safebound_bounds.proofs.Bounded.{one_bound_for_each_set, room_has_all_bounds}
use Rattle.safebound_bounds.proofs.bounding.write_all_bounds.Goals as goal

pub write_bounds-requires : goal.write_bounds-requires
write_bounds-requires c =
    omega (
      arith,
      one_bound_for_each_set (known_by c.args.given.now) c.args.parts.now.equalities (length c.args.given.now.rows.now) c.in_ok-bounds.bounds c.in_ok-bounds.ensures,
      ap length c.as_slice.ensures,
      c.requires.room,
    )

pub returns-clause-done : goal.returns-clause-done
returns-clause-done c =
    room_has_all_bounds (known_by c.args.given.now) c.args.parts.now.equalities (edges_of c.args.given.now.equalities.now) (length c.args.given.now.rows.now) c.in_ok-bounds.bounds
    c.as_slice.result.now c.args.into.now c.write_bounds.new.into _ c.requires.edges c.in_ok-bounds.ensures c.as_slice.ensures c.len.ensures c.write_bounds.ensures
