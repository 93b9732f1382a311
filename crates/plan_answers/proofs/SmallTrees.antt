-- The results of choices among join trees over few entries, by computation.
use Rattle.std.proofs.Common.{◌≡◌, ◌^◌, ◌-◌, [], ◌∷◌, Ok, Err, refl}
use Rattle.order_search.specs.declared.refusal.PlanError.TheVariants as error
use Rattle.plans.specs.TreeExamples.{join, plan_of}
use Rattle.bushy_plan.specs.Examples.{one_pair, triangle}
use Rattle.bushy_plan.specs.PlanTrees.{leaf, node}
use Rattle.plan_answers.specs.AllTrees.{best_tree}
use Rattle.plan_answers.specs.TreeAnswer.{tree_answer}

pub best : best_tree triangle 3 ≡ node (leaf 0) (node (leaf 1) (leaf 2))
unfolding best_tree
best = refl

pub plan : tree_answer triangle (3 ∷ 3 ∷ 3 ∷ []) 9 ≡ Ok (plan_of (join 1 2 5 ∷ join 0 3 9 ∷ []) (3 ∷ 3 ∷ 3 ∷ []) 9)
unfolding best_tree tree_answer
plan = refl

pub budget : tree_answer one_pair (6 ∷ 5 ∷ []) 11 ≡ Err (error.Budget 12)
unfolding best_tree tree_answer
budget = refl

pub past_bits : tree_answer (1 ∷ (2 ^ 128 - 1) ∷ []) (2 ∷ []) 6 ≡ Err error.PastBits
unfolding best_tree tree_answer
past_bits = refl

pub greatest_cost_refused : tree_answer (1 ∷ (2 ^ 128 - 2) ∷ []) (2 ∷ []) 6 ≡ Err (error.Budget (2 ^ 128 - 2))
unfolding best_tree tree_answer
greatest_cost_refused = refl
