use Rattle.std.proofs.Common.{◌∙◌, ap, sym}
use Rattle.degree_sequences.specs.Saturation.{saturated}
use Rattle.bound_fold.specs.Lists.{bounds_of}
use Rattle.set_bounds.proofs.SameTrees.{forest_set}
use Rattle.set_bounds.proofs.in_sets.folded_bound.Goals as goal

pub returns-then-forest : goal.returns-then-forest
returns-then-forest c =
    c.in_ok-bound.ensures {u = tt}
    ∙ ap saturated (sym (forest_set (bounds_of c.args.lists.now) c.args.parts.now.equalities c.args.subset (c.requires.forest c.if-forest.true)))
