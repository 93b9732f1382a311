use Rattle.std.proofs.Common.{arith, ap, sym, subst, ◌≡◌, ◌+◌, length}
use Rattle.counted_sets.specs.UseChains.{AreUseChains}
use Rattle.counted_sets.specs.Counts.{need_at}
use Rattle.counted_sets.proofs.chains.chained_by_need.Goals as goal

pub uses-init : goal.uses-init
uses-init c = record { chains = c.in_ok-chains.ensures.chains (need_at c.args.uses.now); spare = omega (arith, c.in_ok-chains.ensures.spare) }

pub uses-preserved : goal.uses-preserved
uses-preserved c =
    let are = c.uses.invariant.chains in
    let places : length c.uses.chains.befores.items ≡ c.uses.k = are.place_count in
    let here : need_at c.args.uses.now (length c.uses.chains.befores.items) ≡ need_at c.args.uses.now c.uses.k = ap (need_at c.args.uses.now) places in
    let before : AreUseChains (need_at c.args.uses.now) (length c.uses.chains.lasts.items) (length c.uses.chains.befores.items) c.uses.chains.lasts.items c.uses.chains.befores.items =
    subst (λ n. AreUseChains (need_at c.args.uses.now) n (length c.uses.chains.befores.items) c.uses.chains.lasts.items c.uses.chains.befores.items) (sym are.key_count)
    (subst (λ n. AreUseChains (need_at c.args.uses.now) c.args.slots n c.uses.chains.lasts.items c.uses.chains.befores.items) (sym places) are) in
    record {
      chains = subst (λ n. AreUseChains (need_at c.args.uses.now) c.args.slots (n + 1) c.add.new.self.lasts.items c.add.new.self.befores.items) places
          (subst (λ n. AreUseChains (need_at c.args.uses.now) n (length c.uses.chains.befores.items + 1) c.add.new.self.lasts.items c.add.new.self.befores.items) are.key_count
          (c.add.ensures.chains (need_at c.args.uses.now) here before));
      spare = omega (arith, c.add.ensures.spare, c.uses.invariant.spare);
    }
