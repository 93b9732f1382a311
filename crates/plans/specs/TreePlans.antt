-- Plans over join trees. The number of a leaf is its FROM position. Inner nodes are numbered from n, in the plan's order, where n is the number of
-- entries.
use Rattle.std.specs.Prelude.{◌≡◌, ℕ, ◌+◌, ◌-◌, ◌*◌, ◌<◌, ◌≤◌, ◌==◌, List, [], ◌∷◌, length, ⊤}
use Rattle.std.specs.List.{AllByRecursion, count_by}
use Rattle.limits.specs.Profile.{most_entries}
use Rattle.plans.specs.declared.bushy.BushyPlan.{BushyPlan}
use Rattle.plans.specs.declared.bushy.Join.{Join}

-- the nodes on the left and right sides of joins. A node that is joined twice is in the list twice
abbrev pub joined_nodes : List Join → List ℕ
joined_nodes [] = []
joined_nodes (join ∷ joins) = join.left ∷ join.right ∷ joined_nodes joins

-- each join names two nodes with lower numbers than its own. `own` is the number of the first join
abbrev pub HaveHigherNumbers : ℕ → List Join → Type 0
HaveHigherNumbers own [] = ⊤
HaveHigherNumbers own (join ∷ joins) = (join.left < own) × (join.right < own) × HaveHigherNumbers (own + 1) joins

-- a plan for n entries. It has a bound for each entry's scan. Its joins make one tree, in which each node except the root is joined exactly once.
-- `IsTreePlan` says nothing of the plan's `cost`
pub record IsTreePlan (n : ℕ) (plan : BushyPlan) : Type 0 where
  pub few : n ≤ most_entries
  pub scans : length plan.scans ≡ n
  pub joins : length plan.joins + 1 ≡ n
  pub behind : HaveHigherNumbers n plan.joins
  pub once : (node : ℕ) → node < 2 * n - 2 → count_by (λ other. other == node) (joined_nodes plan.joins) ≡ 1

-- each bound of the plan is at most `most`
pub record BoundsAreWithin (most : ℕ) (plan : BushyPlan) : Type 0 where
  pub scans : AllByRecursion (λ rows. rows ≤ most) plan.scans
  pub joins : AllByRecursion (λ join. join.bound ≤ most) plan.joins
