-- When a list dominates keys, or weights of keys: it bounds them for every choice of different keys.
use Rattle.std.specs.Prelude.{ℕ, ◌≤◌, ◌==◌, List, length}
use Rattle.std.specs.List.{sum_by, count_by, list_any, IsDistinct}
use Rattle.degree_sequences.specs.RunningSums.{running_sum}

-- any r different keys occur in `keys`, all together, at most as often as the first r elements of s sum to
abbrev pub DominatesKeys : List ℕ → List ℕ → Type 0
DominatesKeys s keys = (picked : List ℕ) → IsDistinct ◌==◌ picked
    → count_by (λ key. list_any (λ a. key == a) picked) keys ≤ running_sum s (length picked)

-- the weights of any r different keys sum to at most the first r elements of s
abbrev pub DominatesWeights : List ℕ → (ℕ → ℕ) → Type 0
DominatesWeights s weight = (picked : List ℕ) → IsDistinct ◌==◌ picked → sum_by weight picked ≤ running_sum s (length picked)
