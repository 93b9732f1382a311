use Rattle.std.proofs.Common.{refl, arith, inr}
use Rattle.bushy_plan.specs.Examples.{one_pair, triangle}
use Rattle.bushy_plan.specs.PlanTrees.{leaf, node}
use Rattle.bushy_plan.proofs.OneBest.{least_of_best}
use Rattle.bushy_plan.proofs.SomeBest.{at_root, with_over}
use Rattle.bushy_plan.proofs.Tested.{best_by_test}
use Rattle.bushy_plan.proofs.laws.examples.Goals as goal

pub returns-clause-best_pair : goal.returns-clause-best_pair
returns-clause-best_pair c = best_by_test one_pair 2 (node (leaf 0) (leaf 1)) (omega arith) (at_root 1 1 (leaf 0) (omega arith) refl) refl

pub returns-clause-best_triangle : goal.returns-clause-best_triangle
returns-clause-best_triangle c =
    best_by_test triangle 3 (node (leaf 0) (node (leaf 1) (leaf 2))) (omega arith)
    (with_over 3 2 (node (leaf 0) (leaf 1)) (node (leaf 0) (node (leaf 1) (leaf 2))) (omega arith) (at_root 1 1 (leaf 0) (omega arith) refl) (inr (inr (node (leaf 1) (leaf 2), refl, refl)))) refl

pub returns-clause-budget : goal.returns-clause-budget
returns-clause-budget c = (least_of_best one_pair 2 (node (leaf 0) (leaf 1)) (returns-clause-best_pair c), omega arith, omega arith)
