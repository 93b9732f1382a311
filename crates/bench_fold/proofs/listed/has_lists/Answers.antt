use Rattle.std.specs.Prelude.{IsSome}
use Rattle.bound_fold.specs.Lists.{list_of}
use Rattle.bound_fold.specs.Sets.{HaveLists}
use Rattle.bench_fold.proofs.TestResults.{test_of_equivalent_fact}
use Rattle.bench_fold.proofs.listed.has_lists.Goals as goal

pub returns-then-not-has_list : goal.returns-then-not-has_list
returns-then-not-has_list c = λ h. c.if-not-has_list.ensures h.0

pub returns : goal.returns
returns c =
    test_of_equivalent_fact c.has_list-2.result (IsSome (list_of c.args.lists.now c.args.edge.right.entry c.args.edge.right.column)) (HaveLists c.args.lists.now c.args.edge)
    (λ right. (c.if-not-has_list.ensures, right)) (λ h. h.1) c.has_list-2.ensures
