use Rattle.join_graph.proofs.Parting.{MergeSoFar}
use Rattle.join_graph.proofs.keeping.merge_components.Given as goal

abbrev pub invariant-loop-name : goal.invariant-loop-name
invariant-loop-name l = MergeSoFar l.initial.names l.names l.name-index l.old l.new
