-- Best orders and results for few entries, by computation.
use Rattle.std.proofs.Common.{◌≡◌, ◌^◌, ◌-◌, [], ◌∷◌, Ok, Err, refl}
use Rattle.limits.specs.Profile.{top_bound}
use Rattle.plans.specs.Examples.{plan_of}
use Rattle.order_search.specs.Examples.{dearer_prefix, equal_bounds, one_pair_past_bits, past_bits, three_entries}
use Rattle.order_search.specs.declared.refusal.PlanError.TheVariants as error
use Rattle.plan_answers.specs.BestOrder.{best_order}
use Rattle.plan_answers.specs.Bounds.{bounds_of_sets}
use Rattle.plan_answers.specs.PlanAnswer.{plan_answer}

pub best : best_order three_entries 3 ≡ 0 ∷ 2 ∷ 1 ∷ []
unfolding best_order
best = refl

pub first_of_equal : best_order equal_bounds 3 ≡ 0 ∷ 1 ∷ 2 ∷ []
unfolding best_order
first_of_equal = refl

pub dearer : best_order dearer_prefix 4 ≡ 2 ∷ 1 ∷ 0 ∷ 3 ∷ []
unfolding best_order
dearer = refl

pub plan : plan_answer three_entries (2 ∷ 2 ∷ 2 ∷ []) 6 ≡ Ok (plan_of (0 ∷ 2 ∷ 1 ∷ []) (2 ∷ 2 ∷ 2 ∷ []) (2 ∷ 5 ∷ 6 ∷ []))
unfolding best_order plan_answer
plan = refl

pub budget : plan_answer three_entries (2 ∷ 2 ∷ 2 ∷ []) 5 ≡ Err (error.Budget 6)
unfolding best_order plan_answer
budget = refl

pub refused_past_bits : plan_answer past_bits (2 ∷ 2 ∷ 2 ∷ []) 6 ≡ Err error.PastBits
unfolding best_order plan_answer
refused_past_bits = refl

pub avoided : plan_answer one_pair_past_bits (2 ∷ 2 ∷ 2 ∷ []) 6 ≡ Ok (plan_of (0 ∷ 2 ∷ 1 ∷ []) (2 ∷ 2 ∷ 2 ∷ []) (2 ∷ 5 ∷ 6 ∷ []))
unfolding best_order plan_answer
avoided = refl

pub greatest_cost_refused : plan_answer (1 ∷ (2 ^ 128 - 2) ∷ []) (2 ∷ []) 6 ≡ Err (error.Budget (2 ^ 128 - 2))
unfolding best_order plan_answer
greatest_cost_refused = refl

pub bounds_above_top : bounds_of_sets 1 (λ set. 2 ^ 129) ≡ top_bound ∷ top_bound ∷ []
unfolding bounds_of_sets
bounds_above_top = refl
