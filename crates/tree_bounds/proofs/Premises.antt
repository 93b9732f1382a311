-- The lists of two small tables satisfy the premises of the laws.
use Rattle.std.proofs.Common.{ℕ, zero, suc, ◌≤◌, ◌*◌, get_or, List, [], ◌∷◌, refl, arith}
use Rattle.degree_sequences.specs.ComparedChildren.{SumsAreWithin}
use Rattle.degree_sequences.specs.RunningSums.{running_sum}
use Rattle.degree_sequences.proofs.CompressedLists.{IsDescending-compressed, compressed-near}
use Rattle.degree_sequences.proofs.DegreeLists.{IsDescending-degree_list, sum-degree_list, degree_list_dominates}
use Rattle.degree_sequences.proofs.RunningSums.{running_sum-nil}
use Rattle.tree_bounds.specs.Examples.{two_keys, exact_list, compressed_list, exact_bounds, compressed_bounds, two_tables}
use Rattle.tree_bounds.specs.TreeBounds.{HasList}
use Rattle.tree_bounds.specs.Tables.{Dominates}

pub left_list : HasList exact_bounds 0 0
left_list = record { descends = IsDescending-degree_list (two_keys 0 0); total = sum-degree_list (two_keys 0 0) }

pub right_list : HasList exact_bounds 1 0
right_list = record { descends = IsDescending-degree_list (two_keys 1 0); total = sum-degree_list (two_keys 1 0) }

pub left_dominates : Dominates exact_bounds two_tables 0 0
left_dominates = record { keys = degree_list_dominates (two_keys 0 0); key_per_row = refl }

pub right_dominates : Dominates exact_bounds two_tables 1 0
right_dominates = record { keys = degree_list_dominates (two_keys 1 0); key_per_row = refl }

pub left_near_list : HasList compressed_bounds 0 0
left_near_list = record { descends = IsDescending-compressed 1 (exact_list 0 0) left_list.descends; total = refl }

pub right_near_list : HasList compressed_bounds 1 0
right_near_list = record { descends = IsDescending-compressed 1 (exact_list 1 0) right_list.descends; total = refl }

pub within_by_elements : (a c : ℕ) (s t : List ℕ) → ((r : ℕ) → a * get_or s r 0 ≤ c * get_or t r 0) → SumsAreWithin a c s t
within_by_elements a c s t h zero = omega arith
within_by_elements a c [] t h (suc r) = omega arith
within_by_elements a c (x ∷ s) [] h (suc r) =
    let rest : a * running_sum s r ≤ c * running_sum [] r = within_by_elements a c s [] (λ i. h (suc i)) r in
    omega (arith, h 0, rw (running_sum-nil r) at rest)
within_by_elements a c (x ∷ s) (y ∷ t) h (suc r) = omega (arith, h 0, within_by_elements a c s t (λ i. h (suc i)) r)

pub left_near : SumsAreWithin 1 2 (compressed_list 0 0) (exact_list 0 0)
left_near = within_by_elements 1 2 (compressed_list 0 0) (exact_list 0 0) (compressed-near 1 (exact_list 0 0) left_list.descends)

pub right_near : SumsAreWithin 1 2 (compressed_list 1 0) (exact_list 1 0)
right_near = within_by_elements 1 2 (compressed_list 1 0) (exact_list 1 0) (compressed-near 1 (exact_list 1 0) right_list.descends)
