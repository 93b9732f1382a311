use Rattle.std.proofs.Common.{◌≡◌, take}
use Rattle.cond_stats.specs.Sorted.{keys_at}
use Rattle.cond_stats.proofs.lists.keys_at.Given as goal

abbrev pub invariant-loop-place : goal.invariant-loop-place
invariant-loop-place l = l.keys.items ≡ keys_at l.row_keys (take l.place-index l.places)
