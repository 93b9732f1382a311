use Rattle.std.proofs.Common.{◌≡◌, [], length}
use Rattle.std.specs.List.{All}
use Rattle.appended_stats.proofs.rest.empty_groups.Given as goal

abbrev pub invariant-loop-i : goal.invariant-loop-i
invariant-loop-i l = (length l.groups ≡ l.i) × All (λ keys. keys ≡ []) l.groups
