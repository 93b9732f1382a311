use Rattle.std.proofs.Common.{◌<◌, ℕ, get_or}
use Rattle.berge_tree.specs.declared.edges.Edge.{Edge}
use Rattle.bound_fold.specs.Sets.{HaveLists}
use Rattle.join_steps.specs.Lists.{lists_of}
use Rattle.planning.specs.ListsSoFar.{IsKnown}
use Rattle.planning.proofs.lists.lists_over_rows.Given as goal

abbrev pub invariant-equalities : goal.invariant-equalities
invariant-equalities l = record {
  known : IsKnown l.db (lists_of l.lists) l.accuracy l.known;
  joined : (k : ℕ) (d : Edge) → k < l.number → HaveLists l.known (get_or l.equalities k d);
}
