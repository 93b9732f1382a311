use Rattle.std.proofs.Common.{◌≡◌, ℕ, ◌-◌, ◌^◌, ap, subst, ◌∙◌, arith}
use Rattle.limits.specs.Profile.{greatest_entries}
use Rattle.set_bounds.specs.AllSets.{bound_in_128_bits, bounds_below}
use Rattle.set_bounds.specs.Cycles.{AreAllOnEveryCycle}
use Rattle.set_bounds.proofs.OnCycles.{on_every_cycle_within}
use Rattle.set_bounds.proofs.Listing.{first_within}
use Rattle.set_bounds.proofs.SetBySet.{sets_fit, bounds_pushed}
use Rattle.set_bounds.proofs.every_set.bounds_in_sets.Goals as goal

pub next_bound-requires-clause-listed : goal.next_bound-requires-clause-listed
next_bound-requires-clause-listed g c =
    let is : c.from_bits-subset.result ≡ c.loop-bits.bits = c.from_bits-subset.ensures in
    rw is (c.requires.listed c.loop-bits.bits (omega (arith, c.loop-bits-test.true, sets_fit c.args.count c.requires.within_limit)))

pub next_bound-requires-clause-on_every_cycle : goal.next_bound-requires-clause-on_every_cycle
next_bound-requires-clause-on_every_cycle g c =
    let is : c.from_bits-subset.result ≡ c.loop-bits.bits = c.from_bits-subset.ensures in
    let all : c.from_bits-all.result ≡ 2 ^ c.args.count - 1 = c.from_bits-all.ensures ∙ ap (λ (k : ℕ). k - 1) (sets_fit c.args.count c.requires.within_limit) in
    rw is (on_every_cycle_within c.args.parts.now.equalities c.loop-bits.bits (2 ^ c.args.count - 1) c.in_ok-graph.graph.on_every_cycle
    (first_within c.args.count c.loop-bits.bits (omega (arith, c.loop-bits-test.true, sets_fit c.args.count c.requires.within_limit)))
    (subst (λ (k : ℕ). AreAllOnEveryCycle c.args.parts.now.equalities k greatest_entries c.in_ok-graph.graph.on_every_cycle) all c.in_ok-graph.ensures.on_every_cycle))

pub loop-bits-preserved : goal.loop-bits-preserved
loop-bits-preserved g c =
    let known = g.K.EntryListsBySet.known c.args.lists.now in
    bounds_pushed known c.args.parts.now.equalities c.loop-bits.bits c.in_ok-bound.bound c.loop-bits.bounds.items c.push.new.self.items c.loop-bits.invariant
    (c.in_ok-bound.ensures ∙ ap (λ (set : ℕ). bound_in_128_bits (known set) c.args.parts.now.equalities set) c.from_bits-subset.ensures) c.in_ok-push.ensures.items

pub returns : goal.returns
returns g c =
    let all : c.loop-bits.bits ≡ 2 ^ c.args.count = omega (arith, c.loop-bits-test.false, c.loop-bits.auto, sets_fit c.args.count c.requires.within_limit) in
    c.from_vec.ensures ∙ c.loop-bits.invariant ∙ ap (bounds_below (g.K.EntryListsBySet.known c.args.lists.now) c.args.parts.now.equalities) all
