use Rattle.std.proofs.Common.{ℕ, ◌<◌, ◌≤◌, get_or}
use Rattle.reduced_scans.proofs.value_sets.least_and_greatest.Given as goal

abbrev pub invariant-rows : goal.invariant-rows
invariant-rows l = (k : ℕ) → k < l.row-index → (l.least ≤ get_or l.cells (get_or l.list k 0) 0) × (get_or l.cells (get_or l.list k 0) 0 ≤ l.greatest)
