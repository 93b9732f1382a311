use Rattle.std.proofs.Common.{false, true}
use Rattle.level_bounds.specs.Keys.{cell_at}
use Rattle.join_steps.specs.Lists.{lists_of}
use Rattle.reduced_scans.proofs.Sifting.{sifted_by_both_steps, sifted_by_one_join}
use Rattle.reduced_scans.proofs.semi_joins.semi_join_equality.Goals as goal

pub returns-clause-stay : goal.returns-clause-stay
returns-clause-stay c equalities there =
    let key = cell_at c.args.db.now in
    let old = lists_of c.args.lists.now in
    let mid = lists_of c.semi_join_side.new.lists in
    let new = lists_of c.semi_join_side-2.new.lists in
    sifted_by_both_steps key equalities old mid new (sifted_by_one_join key equalities old mid c.args.edge true there c.in_ok-semi_join_side.ensures.joined)
    (sifted_by_one_join key equalities mid new c.args.edge false there c.in_ok-semi_join_side-2.ensures.joined)
