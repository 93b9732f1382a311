-- The levels or joins of a plan were checked one by one. So each level's entry exists, and each join's right node has a number below `end`.
use Rattle.std.proofs.Common.{ℕ, suc, ◌+◌, ◌<◌, ◌≤◌, All, List, [], ◌∷◌, length, map, arith}
use Rattle.std.specs.List.{AllByRecursion}
use Rattle.std.proofs.lemmas.List.Elements.{All-cons}
use Rattle.safebound_plans.specs.declared.ordering.Level.{Level}
use Rattle.safebound_plans.specs.declared.shaping.JoinNode.{JoinNode}
use Rattle.safebound_plans.specs.Memory.{join_of, IsJoinValidAt, IsLevelValidAt}
use Rattle.safebound_plans.specs.Orders.{entries_in}

pub entries_of_levels_exist : (entries : ℕ) (levels : List Level) → ((place : ℕ) → place < length levels → IsLevelValidAt entries levels place) → All (λ e. e < entries) (entries_in levels)
entries_of_levels_exist entries [] valid = λ k d low. absurd (omega arith)
entries_of_levels_exist entries (level ∷ levels) valid =
    All-cons (λ e. e < entries) level.entry (entries_in levels) (valid 0 (omega arith)) (entries_of_levels_exist entries levels (λ place low. valid (suc place) (omega arith)))

pub right_nodes_are_below : (entries end : ℕ) (joins : List JoinNode) → ((place : ℕ) → place < length joins → IsJoinValidAt entries joins place) → entries + length joins ≤ end
    → AllByRecursion (λ join. join.right < end) (map join_of joins)
right_nodes_are_below entries end [] valid fits = tt
right_nodes_are_below entries end (join ∷ joins) valid fits =
    let first = valid 0 (omega arith) in (
      omega (arith, first.1, fits),
      right_nodes_are_below (entries + 1) end joins (λ place low. let later = valid (suc place) (omega arith) in (omega (arith, later.0), omega (arith, later.1))) (omega (arith, fits)),
    )
