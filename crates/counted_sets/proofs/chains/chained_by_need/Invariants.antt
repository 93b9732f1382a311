use Rattle.std.proofs.Common.{◌≡◌, ◌+◌, length}
use Rattle.counted_sets.specs.UseChains.{AreUseChains}
use Rattle.counted_sets.specs.Counts.{need_at}
use Rattle.counted_sets.proofs.chains.chained_by_need.Given as goal

abbrev pub invariant-uses : goal.invariant-uses
invariant-uses l = record {
  chains : AreUseChains (need_at l.uses) l.slots l.k l.chains.lasts.items l.chains.befores.items;
  spare : l.chains.befores.spare + l.k ≡ length l.uses;
}
