use Rattle.std.proofs.Common.{arith, ◌-◌}
use Rattle.std.proofs.lemmas.List.Elements.{Contains-get_or}
use Rattle.level_bounds.specs.Keys.{cell_at}
use Rattle.join_steps.specs.Lists.{lists_of}
use Rattle.reduced_scans.proofs.Sifting.{sifted_by_both_steps}
use Rattle.reduced_scans.proofs.semi_joins.semi_join_back.Goals as goal

pub equalities-preserved : goal.equalities-preserved
equalities-preserved c = record {
  within = omega (arith, c.equalities.invariant.within);
  lists = c.in_ok-semi_join_equality.ensures.lists;
  stay = sifted_by_both_steps (cell_at c.args.db.now) c.args.equalities.now (lists_of c.args.lists.now) (lists_of c.equalities.lists) (lists_of c.semi_join_equality.new.lists) c.equalities.invariant.stay
      (c.in_ok-semi_join_equality.ensures.stay c.args.equalities.now
      (Contains-get_or c.args.equalities.now (c.equalities.remaining - 1) _ (omega (arith, c.equalities.invariant.within, c.equalities-test.true))));
}
