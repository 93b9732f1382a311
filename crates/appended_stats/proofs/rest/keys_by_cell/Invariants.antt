use Rattle.std.proofs.Common.{◌≡◌, ◌<◌, ℕ, [], get_or, length, take}
use Rattle.std.specs.List.{zip}
use Rattle.cond_stats.specs.Lists.{keys_with}
use Rattle.appended_stats.proofs.rest.keys_by_cell.Given as goal

abbrev pub invariant-loop-i : goal.invariant-loop-i
invariant-loop-i l = (length l.groups ≡ length l.others.keys)
    × ((k : ℕ) → k < length l.others.keys → get_or l.groups k [] ≡ keys_with (get_or l.others.keys k 0) (zip (take l.i l.cells) (take l.i l.joined)))
