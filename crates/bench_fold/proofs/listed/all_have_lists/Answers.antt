use Rattle.std.proofs.Common.{arith}
use Rattle.std.specs.Prelude.{IsSome}
use Rattle.berge_tree.specs.declared.edges.Edge.{Edge}
use Rattle.bound_fold.specs.Lists.{list_of}
use Rattle.bound_fold.proofs.TestedSets.{AtBoth, edge_more, each_named_column, named_at}
use Rattle.bench_fold.proofs.listed.all_have_lists.Goals as goal

pub loop-edge-preserved : goal.loop-edge-preserved
loop-edge-preserved c =
    let none : Edge = record { left = record { entry = 0; column = 0 }; right = record { entry = 0; column = 0 } } in
    edge_more (AtBoth (λ entry column. IsSome (list_of c.args.lists.now entry column)) c.args.subset) c.args.edges.now c.loop-edge.edge-index none c.loop-edge.invariant c.if-not-may_have_lists.ensures
    c.loop-edge-test.true

pub returns : goal.returns
returns c = each_named_column (λ entry column. IsSome (list_of c.args.lists.now entry column)) c.args.subset c.args.edges.now (λ k d low. c.loop-edge.invariant k d (omega arith))

pub returns-then-not-may_have_lists : goal.returns-then-not-may_have_lists
returns-then-not-may_have_lists c = λ h.
    let none : Edge = record { left = record { entry = 0; column = 0 }; right = record { entry = 0; column = 0 } } in
    c.if-not-may_have_lists.ensures.1
    (named_at (λ entry column. IsSome (list_of c.args.lists.now entry column)) c.args.subset c.args.edges.now h c.loop-edge.edge-index none c.loop-edge-test.true c.if-not-may_have_lists.ensures.0)
