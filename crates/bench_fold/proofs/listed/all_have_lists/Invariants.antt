use Rattle.std.proofs.Common.{ℕ, ◌<◌, get_or}
use Rattle.std.specs.Prelude.{IsSome}
use Rattle.berge_tree.specs.declared.edges.Edge.{Edge}
use Rattle.bound_fold.specs.Lists.{list_of}
use Rattle.bound_fold.proofs.TestedSets.{AtBoth}
use Rattle.bench_fold.proofs.listed.all_have_lists.Given as goal

abbrev pub invariant-loop-edge : goal.invariant-loop-edge
invariant-loop-edge l = (k : ℕ) (d : Edge) → k < l.edge-index → AtBoth (λ entry column. IsSome (list_of l.lists entry column)) l.subset (get_or l.edges k d)
