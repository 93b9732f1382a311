use Rattle.std.proofs.Common.{ℕ, ◌<◌, get_or}
use Rattle.csv_tables.proofs.keys.ascends.Given as goal

abbrev pub invariant-cells : goal.invariant-cells
invariant-cells l = (i j : ℕ) → i < j → j < l.at → get_or l.cells i 0 < get_or l.cells j 0
