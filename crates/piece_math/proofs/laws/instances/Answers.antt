use Rattle.std.proofs.Common.{[], ◌∷◌, arith}
use Rattle.degree_sequences.proofs.DegreeLists.{degree_list_dominates, IsDescending-degree_list}
use Rattle.piece_math.proofs.LawInstances.{two_descend, three_descend, sums_of_three_above}
use Rattle.piece_math.proofs.LawInstances as instance
use Rattle.piece_math.proofs.laws.instances.Goals as goal

pub returns-clause-product_dominates : goal.returns-clause-product_dominates
returns-clause-product_dominates c =
    (IsDescending-degree_list (7 ∷ 7 ∷ 7 ∷ 8 ∷ 9 ∷ []), instance.degree_list_dominates_degrees (7 ∷ 7 ∷ 8 ∷ []), instance.degree_list_dominates_degrees (7 ∷ 7 ∷ 7 ∷ 8 ∷ 9 ∷ []), instance.product_instance)

pub returns-clause-compose_dominates : goal.returns-clause-compose_dominates
returns-clause-compose_dominates c = (degree_list_dominates (1 ∷ 1 ∷ 1 ∷ 2 ∷ 2 ∷ 2 ∷ []), (instance.child_dominates, tt), instance.keys_instance)

pub returns-clause-compose_dominates_rows : goal.returns-clause-compose_dominates_rows
returns-clause-compose_dominates_rows c = (omega arith, (instance.child_dominates, tt), instance.rows_instance)

pub returns-clause-product_is_monotone : goal.returns-clause-product_is_monotone
returns-clause-product_is_monotone c = (
  (two_descend 3 3 (omega arith), (two_descend 5 4 (omega arith), tt)),
  (three_descend 3 2 1 (omega arith) (omega arith), (three_descend 5 3 1 (omega arith) (omega arith), tt)),
  (sums_of_three_above 3 3 3 2 1 (omega arith) (omega arith) (omega arith), (sums_of_three_above 5 4 5 3 1 (omega arith) (omega arith) (omega arith), tt)),
  instance.larger_product,
)

pub returns-clause-compose_is_monotone : goal.returns-clause-compose_is_monotone
returns-clause-compose_is_monotone c = (
  (instance.larger_is_child, tt),
  (instance.smaller_is_child, tt),
  (three_descend 3 2 1 (omega arith) (omega arith), tt),
  sums_of_three_above 3 3 3 2 1 (omega arith) (omega arith) (omega arith),
  (instance.larger_is_above, tt),
  instance.larger_composition,
)

pub returns-clause-compose_scales : goal.returns-clause-compose_scales
returns-clause-compose_scales c = (
  instance.sums_of_three_near,
  (instance.matched_is_near, tt),
  (instance.near_is_child, tt),
  (instance.exact_is_child, tt),
  (two_descend 3 3 (omega arith), tt),
  instance.scaled_composition,
)
