use Rattle.std.proofs.Common.{◌≡◌}
use Rattle.bench_link_index.proofs.measure.Given as goal

abbrev pub invariant-loop : goal.invariant-loop
invariant-loop g l = (l.chains.room ≡ l.initial.chains.room) × (l.chains.buckets ≡ l.initial.chains.buckets)
