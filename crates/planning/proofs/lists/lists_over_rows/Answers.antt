use Rattle.std.proofs.Common.{get_or, length, sym, arith}
use Rattle.berge_tree.specs.declared.edges.Edge.{Edge}
use Rattle.bound_fold.specs.Sets.{HaveLists}
use Rattle.bound_fold.proofs.TestedSets.{edge_more}
use Rattle.join_steps.specs.Lists.{lists_of}
use Rattle.join_steps.proofs.WholeScans.{length-lists_of}
use Rattle.query_bounds.proofs.Holding.{no_edge}
use Rattle.planning.proofs.CollectedBounds.{known_at_start}
use Rattle.planning.proofs.lists.lists_over_rows.Goals as goal

pub equalities-init : goal.equalities-init
equalities-init c = record {
  known = known_at_start c.args.db.now (lists_of c.args.lists.now) c.args.accuracy (length c.args.lists.now) c.in_ok-known.known (sym (length-lists_of c.args.lists.now))
      c.in_ok-known.ensures.rows c.in_ok-known.ensures.no_lists;
  joined = λ k d k_in_range. absurd (omega (arith, k_in_range));
}

pub equalities-preserved : goal.equalities-preserved
equalities-preserved c =
    let es = c.args.equalities.now in
    let edge : Edge = get_or es c.equalities.number no_edge in
    record {
      known = c.in_ok-add_list-2.ensures.known;
      joined = edge_more (HaveLists c.add_list-in-equalities.new.known) es c.equalities.number no_edge
          (λ k d k_in_range.
          let left = (get_or es k d).left in
          let right = (get_or es k d).right in
          let before = c.equalities.invariant.joined k d k_in_range in (
            c.in_ok-add_list-2.ensures.kept left.entry left.column (c.in_ok-add_list.ensures.kept left.entry left.column before.0),
            c.in_ok-add_list-2.ensures.kept right.entry right.column (c.in_ok-add_list.ensures.kept right.entry right.column before.1),
          ))
          (c.in_ok-add_list-2.ensures.kept edge.left.entry edge.left.column c.in_ok-add_list.ensures.there, c.in_ok-add_list-2.ensures.there)
          (omega (arith, c.equalities-test.true));
    }
