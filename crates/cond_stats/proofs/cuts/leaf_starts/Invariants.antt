use Rattle.std.proofs.Common.{◌≡◌, ◌<◌, ℕ, List, length, get_or}
use Rattle.cond_stats.specs.Runs.{AreRunsOfNumbers, IsLeafStart}
use Rattle.cond_stats.proofs.cuts.leaf_starts.Given as goal

abbrev pub invariant-loop-leaf : goal.invariant-loop-leaf
invariant-loop-leaf l = (length l.starts.items ≡ l.leaf)
    × ((numbers places : List ℕ) → length numbers ≡ l.rows → AreRunsOfNumbers numbers places l.runs → (leaf : ℕ) → leaf < l.leaf → IsLeafStart numbers leaf (get_or l.starts.items leaf 0))
