use Rattle.std.proofs.Common.{sym, subst}
use Rattle.level_bounds.specs.Keys.{cell_at}
use Rattle.join_steps.specs.Lists.{lists_of}
use Rattle.reduced_scans.specs.SemiJoins.{IsSifted}
use Rattle.reduced_scans.proofs.SiftedLists.{lists_alike}
use Rattle.reduced_scans.proofs.Sifting.{scans_are_sifted, sifted_by_both_steps}
use Rattle.reduced_scans.proofs.semi_joins.semi_join_all.Goals as goal

pub semi_join_forward-requires-clause-lists : goal.semi_join_forward-requires-clause-lists
semi_join_forward-requires-clause-lists c = lists_alike c.args.db.now c.args.scans.now c.in_ok-lists.lists c.requires.lists c.in_ok-lists.ensures

pub returns-clause-sifted : goal.returns-clause-sifted
returns-clause-sifted c equal tells ascending =
    let scans = lists_of c.args.scans.now in
    let key = cell_at c.args.db.now in
    let stay = sifted_by_both_steps key c.args.equalities.now (lists_of c.in_ok-lists.lists) (lists_of c.semi_join_forward.new.lists) (lists_of c.semi_join_back.new.lists)
    c.in_ok-semi_join_forward.ensures.stay c.in_ok-semi_join_back.ensures.stay in
    stay.stay scans equal tells (subst (IsSifted scans c.args.equalities.now equal) (sym c.in_ok-lists.ensures) (scans_are_sifted scans c.args.equalities.now equal ascending))
