-- Each law at small numbers: its premises all hold, and so does its conclusion.
use Rattle.std.proofs.Common.{ℕ, zero, suc, ◌+◌, ◌*◌, ◌≤◌, List, [], ◌∷◌, refl, arith}
use Rattle.std.specs.List.{sum_by, range_with_len}
use Rattle.degree_sequences.specs.ByRank.{rank_product, rank_product_of}
use Rattle.degree_sequences.specs.Composition.{ChildLists, composed, root_total}
use Rattle.degree_sequences.specs.Degrees.{degree, degree_list}
use Rattle.degree_sequences.specs.Domination.{DominatesWeights}
use Rattle.degree_sequences.specs.Descending.{IsDescending}
use Rattle.degree_sequences.specs.ComparedChildren.{ChildIsAbove, IsChildOf, IsNear, SumsAreWithin, MatchedChild}
use Rattle.degree_sequences.specs.KeyedRows.{ChildKeys, DominatesChild, weight_of_row, weight_of_key}
use Rattle.degree_sequences.specs.RunningSums.{HasHigherSums, running_sum}
use Rattle.degree_sequences.proofs.DegreeLists.{degree_list_dominates, degrees_dominated, IsDescending-degree_list}
use Rattle.degree_sequences.proofs.FallingLists.{IsDescending-cons}
use Rattle.degree_sequences.proofs.ByRank.{rank_product_of-above}
use Rattle.degree_sequences.proofs.CompositionDominates.{composed_dominates, root_at_least}
use Rattle.degree_sequences.proofs.ProductDominates.{rank_product_dominates}
use Rattle.degree_sequences.proofs.RowWeights.{composed-above}
use Rattle.degree_sequences.proofs.Scaling.{composed-near}

pub degree_list_dominates_degrees : (keys : List ℕ) → DominatesWeights (degree_list keys) (degree keys)
degree_list_dominates_degrees keys = degrees_dominated (degree_list keys) keys (degree_list_dominates keys)

pub product_instance : DominatesWeights (rank_product (2 ∷ 1 ∷ []) (3 ∷ 1 ∷ 1 ∷ [])) (λ a. degree (7 ∷ 7 ∷ 8 ∷ []) a * degree (7 ∷ 7 ∷ 7 ∷ 8 ∷ 9 ∷ []) a)
product_instance =
    rank_product_dominates (2 ∷ 1 ∷ []) (3 ∷ 1 ∷ 1 ∷ []) (degree (7 ∷ 7 ∷ 8 ∷ [])) (degree (7 ∷ 7 ∷ 7 ∷ 8 ∷ 9 ∷ []))
    (IsDescending-degree_list (7 ∷ 7 ∷ 7 ∷ 8 ∷ 9 ∷ [])) (degree_list_dominates_degrees (7 ∷ 7 ∷ 8 ∷ [])) (degree_list_dominates_degrees (7 ∷ 7 ∷ 7 ∷ 8 ∷ 9 ∷ []))

abbrev child_lists : ChildLists
child_lists = record { column = 2 ∷ 2 ∷ 2 ∷ []; class = 4 ∷ 1 ∷ [] }

abbrev child_keys : ChildKeys
child_keys = record { keys = 5 ∷ 5 ∷ 6 ∷ 6 ∷ 7 ∷ 7 ∷ []; weight = degree (5 ∷ 5 ∷ 5 ∷ 5 ∷ 6 ∷ []) }

pub child_dominates : DominatesChild 6 child_lists child_keys
child_dominates = record {
  column = degree_list_dominates (5 ∷ 5 ∷ 6 ∷ 6 ∷ 7 ∷ 7 ∷ []);
  class = degree_list_dominates_degrees (5 ∷ 5 ∷ 5 ∷ 5 ∷ 6 ∷ []);
  class_is_descending = IsDescending-degree_list (5 ∷ 5 ∷ 5 ∷ 5 ∷ 6 ∷ []);
  key_per_row = refl;
}

pub keys_instance : DominatesWeights (composed (3 ∷ 3 ∷ []) (child_lists ∷ [])) (weight_of_key (1 ∷ 1 ∷ 1 ∷ 2 ∷ 2 ∷ 2 ∷ []) (child_keys ∷ []))
keys_instance =
    composed_dominates (3 ∷ 3 ∷ []) (1 ∷ 1 ∷ 1 ∷ 2 ∷ 2 ∷ 2 ∷ []) (child_lists ∷ []) (child_keys ∷ [])
    (degree_list_dominates (1 ∷ 1 ∷ 1 ∷ 2 ∷ 2 ∷ 2 ∷ [])) (child_dominates, tt)

pub rows_instance : sum_by (weight_of_row (child_keys ∷ [])) (range_with_len 0 6) ≤ root_total (child_lists ∷ []) 6
rows_instance = root_at_least 6 6 (omega arith) (child_lists ∷ []) (child_keys ∷ []) (child_dominates, tt)

pub two_descend : (x y : ℕ) → y ≤ x → IsDescending (x ∷ y ∷ [])
two_descend x y h = IsDescending-cons x (y ∷ []) h (IsDescending-cons y [] (omega arith) (λ r. omega arith))

pub three_descend : (x y z : ℕ) → y ≤ x → z ≤ y → IsDescending (x ∷ y ∷ z ∷ [])
three_descend x y z h k = IsDescending-cons x (y ∷ z ∷ []) h (two_descend y z k)

sums_of_two_above : (x y a b : ℕ) → a ≤ x → a + b ≤ x + y → HasHigherSums (x ∷ y ∷ []) (a ∷ b ∷ [])
sums_of_two_above x y a b h k zero = omega arith
sums_of_two_above x y a b h k (suc zero) = omega arith
sums_of_two_above x y a b h k (suc (suc zero)) = omega arith
sums_of_two_above x y a b h k (suc (suc (suc r))) = omega arith

pub sums_of_three_above : (x y a b c : ℕ) → a ≤ x → a + b ≤ x + y → a + b + c ≤ x + y → HasHigherSums (x ∷ y ∷ []) (a ∷ b ∷ c ∷ [])
sums_of_three_above x y a b c h k l zero = omega arith
sums_of_three_above x y a b c h k l (suc zero) = omega arith
sums_of_three_above x y a b c h k l (suc (suc zero)) = omega arith
sums_of_three_above x y a b c h k l (suc (suc (suc zero))) = omega arith
sums_of_three_above x y a b c h k l (suc (suc (suc (suc r)))) = omega arith

pub larger_product : HasHigherSums (rank_product_of ((3 ∷ 3 ∷ []) ∷ (5 ∷ 4 ∷ []) ∷ [])) (rank_product_of ((3 ∷ 2 ∷ 1 ∷ []) ∷ (5 ∷ 3 ∷ 1 ∷ []) ∷ []))
larger_product =
    rank_product_of-above ((3 ∷ 3 ∷ []) ∷ (5 ∷ 4 ∷ []) ∷ []) ((3 ∷ 2 ∷ 1 ∷ []) ∷ (5 ∷ 3 ∷ 1 ∷ []) ∷ [])
    (two_descend 3 3 (omega arith), (two_descend 5 4 (omega arith), tt))
    (three_descend 3 2 1 (omega arith) (omega arith), (three_descend 5 3 1 (omega arith) (omega arith), tt))
    (sums_of_three_above 3 3 3 2 1 (omega arith) (omega arith) (omega arith), (sums_of_three_above 5 4 5 3 1 (omega arith) (omega arith) (omega arith), tt))

abbrev larger_child : ChildLists
larger_child = record { column = 3 ∷ 3 ∷ []; class = 4 ∷ 1 ∷ [] }

abbrev smaller_child : ChildLists
smaller_child = record { column = 3 ∷ 2 ∷ 1 ∷ []; class = 3 ∷ 2 ∷ [] }

pub larger_is_child : IsChildOf 6 larger_child
larger_is_child = record { class_is_descending = two_descend 4 1 (omega arith); column_sum = refl }

pub smaller_is_child : IsChildOf 6 smaller_child
smaller_is_child = record { class_is_descending = two_descend 3 2 (omega arith); column_sum = refl }

pub larger_is_above : ChildIsAbove larger_child smaller_child
larger_is_above = record { column = sums_of_three_above 3 3 3 2 1 (omega arith) (omega arith) (omega arith); class = sums_of_two_above 4 1 3 2 (omega arith) (omega arith) }

pub larger_composition : HasHigherSums (composed (3 ∷ 3 ∷ []) (larger_child ∷ [])) (composed (3 ∷ 2 ∷ 1 ∷ []) (smaller_child ∷ []))
larger_composition =
    composed-above (3 ∷ 3 ∷ []) (3 ∷ 2 ∷ 1 ∷ []) (larger_child ∷ []) (smaller_child ∷ []) (larger_is_child, tt) (smaller_is_child, tt)
    (three_descend 3 2 1 (omega arith) (omega arith), tt) (sums_of_three_above 3 3 3 2 1 (omega arith) (omega arith) (omega arith)) (larger_is_above, tt)

abbrev matched : MatchedChild
matched = record { near = record { column = 3 ∷ 3 ∷ []; class = 6 ∷ 1 ∷ [] }; exact = record { column = 3 ∷ 2 ∷ 1 ∷ []; class = 4 ∷ 1 ∷ [] }; scale = 2; factor = 3 }

pub sums_of_three_near : (r : ℕ) → 1 * running_sum (3 ∷ 3 ∷ []) r ≤ 2 * running_sum (3 ∷ 2 ∷ 1 ∷ []) r
sums_of_three_near zero = omega arith
sums_of_three_near (suc zero) = omega arith
sums_of_three_near (suc (suc zero)) = omega arith
sums_of_three_near (suc (suc (suc zero))) = omega arith
sums_of_three_near (suc (suc (suc (suc r)))) = omega arith

near_class : (r : ℕ) → 2 * running_sum (6 ∷ 1 ∷ []) r ≤ 3 * running_sum (4 ∷ 1 ∷ []) r
near_class zero = omega arith
near_class (suc zero) = omega arith
near_class (suc (suc zero)) = omega arith
near_class (suc (suc (suc r))) = omega arith

pub matched_is_near : IsNear 1 matched
matched_is_near = record { column = sums_of_three_near; class = near_class }

pub near_is_child : IsChildOf 6 matched.near
near_is_child = record { class_is_descending = two_descend 6 1 (omega arith); column_sum = refl }

pub exact_is_child : IsChildOf 6 matched.exact
exact_is_child = record { class_is_descending = two_descend 4 1 (omega arith); column_sum = refl }

pub scaled_composition : SumsAreWithin 2 6 (composed (3 ∷ 3 ∷ []) (matched.near ∷ [])) (composed (3 ∷ 2 ∷ 1 ∷ []) (matched.exact ∷ []))
scaled_composition =
    composed-near 1 (3 ∷ 3 ∷ []) (3 ∷ 2 ∷ 1 ∷ []) (matched ∷ []) sums_of_three_near (matched_is_near, tt) (near_is_child, tt) (exact_is_child, tt)
    (two_descend 3 3 (omega arith), tt)
