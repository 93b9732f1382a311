use Rattle.std.proofs.Common.{◌∙◌}
use Rattle.bound_fold.specs.Lists.{bounds_of}
use Rattle.set_bounds.proofs.Within.{own_bound, own_equalities_have_bounds}
use Rattle.set_bounds.proofs.cycles.cyclic_bound.Goals as goal

pub least_of_turns-requires : goal.least_of_turns-requires
least_of_turns-requires c = record {
  listed = own_equalities_have_bounds c.args.lists.now c.args.parts.now.equalities c.in_ok-own.own.equalities c.args.subset c.in_ok-own.ensures c.requires.listed;
}

pub returns : goal.returns
returns c =
    c.in_ok-bound.ensures ∙ own_bound (bounds_of c.args.lists.now) c.args.parts.now.equalities c.in_ok-own.own.equalities c.args.subset c.in_ok-own.ensures
