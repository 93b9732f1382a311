use Rattle.std.proofs.Common.{ℕ, List, [], ◌∷◌, length, ap}
use Rattle.entry_sets.specs.Sets.{entries_of_set}
use Rattle.tree_bounds.specs.Examples.{triangle_bounds}
use Rattle.tree_bounds.specs.SetBounds.{bound_of_set}
use Rattle.level_bounds.proofs.SmallTriangle.{triangle_joined, triangle_level_is}
use Rattle.level_bounds.proofs.examples.triangles.Goals as goal

pub returns-clause-joined : goal.returns-clause-joined
returns-clause-joined c = triangle_joined

pub returns-clause-first : goal.returns-clause-first
returns-clause-first c = ap (λ (s : List (List ℕ)). length s) (triangle_level_is (0 ∷ []))

pub returns-clause-second : goal.returns-clause-second
returns-clause-second c = ap (λ (s : List (List ℕ)). length s) (triangle_level_is (0 ∷ 1 ∷ []))

pub returns-clause-last : goal.returns-clause-last
returns-clause-last c = ap (λ (s : List (List ℕ)). length s) (triangle_level_is (0 ∷ 1 ∷ 2 ∷ []))

pub returns-clause-turned : goal.returns-clause-turned
returns-clause-turned c = ap (λ (s : List (List ℕ)). length s) (triangle_level_is (2 ∷ 0 ∷ 1 ∷ []))

pub returns-clause-first_bound : goal.returns-clause-first_bound
unfolding entries_of_set
returns-clause-first_bound c = ap (λ es. bound_of_set triangle_bounds es 1) triangle_joined

pub returns-clause-second_bound : goal.returns-clause-second_bound
unfolding entries_of_set
returns-clause-second_bound c = ap (λ es. bound_of_set triangle_bounds es 3) triangle_joined

pub returns-clause-last_bound : goal.returns-clause-last_bound
unfolding entries_of_set
returns-clause-last_bound c = ap (λ es. bound_of_set triangle_bounds es 7) triangle_joined
