use Rattle.std.proofs.Common.{◌≡◌, ◌<◌, ℕ, true, length, get_or}
use Rattle.counted_sets.specs.Counts.{giver_count}
use Rattle.counted_sets.proofs.counts.count_all.Given as goal

abbrev pub invariant-uses : goal.invariant-uses
invariant-uses l = record {
  same_length : length l.counts.items ≡ l.slots;
  counted : (slot : ℕ) → slot < l.slots → get_or l.counts.items slot 0 ≡ giver_count (λ item. true) l.uses slot l.k;
}
