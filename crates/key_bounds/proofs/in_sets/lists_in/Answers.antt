use Rattle.std.proofs.Common.{◌<◌, get_or, arith}
use Rattle.berge_tree.specs.declared.edges.Edge.{Edge}
use Rattle.bound_fold.specs.Sets.{HaveLists}
use Rattle.bound_fold.proofs.TestedSets.{edge_more}
use Rattle.query_bounds.proofs.Holding.{no_edge, pair_at}
use Rattle.key_bounds.specs.InSets.{bounds_with_carried}
use Rattle.key_bounds.proofs.Made.{carried_at, part_first}
use Rattle.key_bounds.proofs.in_sets.lists_in.Goals as goal

pub equalities-init : goal.equalities-init
equalities-init c = record {
  part = part_first (bounds_with_carried c.args.keys.now c.args.subset) c.args.keys.now.count c.in_ok-made.made c.in_ok-made.ensures.rows c.in_ok-made.ensures.lists;
  joined = λ k d k_in_range. absurd (omega (arith, k_in_range));
}

pub add_list-requires-clause-entry : goal.add_list-requires-clause-entry
add_list-requires-clause-entry c =
    (pair_at (λ entry column. entry < c.args.keys.now.count) c.args.equalities.now c.requires.entries c.equalities.number no_edge c.equalities-test.true).0

pub add_list-requires-clause-carried : goal.add_list-requires-clause-carried
add_list-requires-clause-carried c =
    (carried_at c.args.equalities.now c.args.keys.now.carried c.requires.carried c.equalities.number no_edge c.equalities-test.true).0

pub add_list-requires-in-equalities-clause-entry : goal.add_list-requires-in-equalities-clause-entry
add_list-requires-in-equalities-clause-entry c =
    (pair_at (λ entry column. entry < c.args.keys.now.count) c.args.equalities.now c.requires.entries c.equalities.number no_edge c.equalities-test.true).1

pub add_list-requires-in-equalities-clause-carried : goal.add_list-requires-in-equalities-clause-carried
add_list-requires-in-equalities-clause-carried c =
    (carried_at c.args.equalities.now c.args.keys.now.carried c.requires.carried c.equalities.number no_edge c.equalities-test.true).1

pub equalities-preserved : goal.equalities-preserved
equalities-preserved c =
    let es = c.args.equalities.now in
    let edge : Edge = get_or es c.equalities.number no_edge in
    record {
      part = c.in_ok-add_list-2.ensures.part;
      joined = edge_more (HaveLists c.add_list-in-equalities.new.made) es c.equalities.number no_edge
          (λ k d k_in_range.
          let left = (get_or es k d).left in
          let right = (get_or es k d).right in
          let before = c.equalities.invariant.joined k d k_in_range in (
            c.in_ok-add_list-2.ensures.kept left.entry left.column (c.in_ok-add_list.ensures.kept left.entry left.column before.0),
            c.in_ok-add_list-2.ensures.kept right.entry right.column (c.in_ok-add_list.ensures.kept right.entry right.column before.1),
          ))
          (c.in_ok-add_list-2.ensures.kept edge.left.entry edge.left.column c.in_ok-add_list.ensures.there, c.in_ok-add_list-2.ensures.there)
          (omega (arith, c.equalities-test.true));
    }

pub returns-clause-lists : goal.returns-clause-lists
returns-clause-lists c = λ k d k_in_range. c.equalities.invariant.joined k d (omega (arith, k_in_range, c.equalities-test.false))
