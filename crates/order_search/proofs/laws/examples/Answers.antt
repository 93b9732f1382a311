use Rattle.std.proofs.Common.{[], ◌∷◌, refl, arith}
use Rattle.order_search.specs.Examples.{dearer_prefix, equal_bounds, one_pair_past_bits, past_bits, three_entries}
use Rattle.order_search.proofs.NoWorse.{least_of_best}
use Rattle.order_search.proofs.Tested.{best_by_test}
use Rattle.order_search.proofs.laws.examples.Goals as goal

pub returns-clause-best : goal.returns-clause-best
returns-clause-best c = best_by_test three_entries 3 (0 ∷ (2 ∷ (1 ∷ []))) (refl, (refl, (refl, refl))) refl

pub returns-clause-budget : goal.returns-clause-budget
returns-clause-budget c = (least_of_best three_entries 3 (0 ∷ (2 ∷ (1 ∷ []))) (returns-clause-best c), omega arith, omega arith)

pub returns-clause-first_of_equal : goal.returns-clause-first_of_equal
returns-clause-first_of_equal c = best_by_test equal_bounds 3 (0 ∷ (1 ∷ (2 ∷ []))) (refl, (refl, (refl, refl))) refl

pub returns-clause-dearer : goal.returns-clause-dearer
returns-clause-dearer c = best_by_test dearer_prefix 4 (2 ∷ (1 ∷ (0 ∷ (3 ∷ [])))) (refl, (refl, (refl, (refl, refl)))) refl

pub returns-clause-past_bits : goal.returns-clause-past_bits
returns-clause-past_bits c = (
  340282366920938463463374607431768211455,
  least_of_best past_bits 3 (0 ∷ (1 ∷ (2 ∷ []))) (best_by_test past_bits 3 (0 ∷ (1 ∷ (2 ∷ []))) (refl, (refl, (refl, refl))) refl),
  omega arith,
)

pub returns-clause-avoided : goal.returns-clause-avoided
returns-clause-avoided c = best_by_test one_pair_past_bits 3 (0 ∷ (2 ∷ (1 ∷ []))) (refl, (refl, (refl, refl))) refl
