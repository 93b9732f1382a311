use Rattle.std.proofs.Common.{◌<◌, ℕ, get_or}
use Rattle.berge_tree.specs.declared.edges.Edge.{Edge}
use Rattle.bound_fold.specs.Sets.{HaveLists}
use Rattle.key_bounds.specs.InSets.{IsPartOf, bounds_with_carried}
use Rattle.key_bounds.proofs.in_sets.lists_in.Given as goal

abbrev pub invariant-equalities : goal.invariant-equalities
invariant-equalities l = record {
  part : IsPartOf (bounds_with_carried l.keys l.subset) l.keys.count l.made;
  joined : (k : ℕ) (d : Edge) → k < l.number → HaveLists l.made (get_or l.equalities k d);
}
