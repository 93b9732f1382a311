use Rattle.std.proofs.Common.{◌≡◌, ◌+◌, length}
use Rattle.counted_sets.specs.UseChains.{AreUseChains}
use Rattle.counted_sets.specs.Counts.{item_at}
use Rattle.counted_sets.proofs.chains.chained_by_item.Given as goal

abbrev pub invariant-uses : goal.invariant-uses
invariant-uses l = record {
  chains : AreUseChains (item_at l.uses) l.items l.k l.chains.lasts.items l.chains.befores.items;
  spare : l.chains.befores.spare + l.k ≡ length l.uses;
}
