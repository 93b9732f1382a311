use Rattle.std.proofs.Common.{rules, ℕ, [], ◌∷◌, ◌++◌, ap, ◌≡◌, ◌+◌, ◌^◌, get_or, arith, ◌∙◌}
use Rattle.std.proofs.lemmas.Nat.{pow_pos}
use Rattle.order_search.proofs.LevelsSoFar.{next_bound, next_within, not_placed, levels_of_next, levels_at_start}
use Rattle.order_search.proofs.search.levels_along.Goals as goal

pub loop-entry-init : goal.loop-entry-init
loop-entry-init c = let none : c.empty-placed.result ≡ 0 = c.empty-placed.ensures in rw (c.new-levels.ensures.items, none) (levels_at_start c.args.bounds.now c.args.count c.args.order.now c.requires.order)

pub loop-entry-preserved : goal.loop-entry-preserved
loop-entry-preserved c =
    let moved : c.with-placed.result ≡ c.loop-entry.placed + 2 ^ get_or c.args.order.now c.loop-entry.entry-index 0 =
    c.with-placed.ensures.number (not_placed c.args.bounds.now c.args.count c.args.order.now c.loop-entry.entry-index c.loop-entry.placed c.loop-entry.levels.items c.loop-entry.invariant c.loop-entry-test.true) in
    levels_of_next c.args.bounds.now c.args.count c.args.order.now c.loop-entry.entry-index c.loop-entry.placed c.with-placed.result c.loop-entry.levels.items c.push.new.self.items
    c.loop-entry.invariant c.loop-entry-test.true moved
    (c.in_ok-push.ensures.items ∙ ap (λ (placed : ℕ). c.loop-entry.levels.items ++ get_or c.args.bounds.now placed 0 ∷ []) c.bits.ensures)

pub bounds-bounds-bits : goal.bounds-bounds-bits
bounds-bounds-bits c =
    let moved : c.with-placed.result ≡ c.loop-entry.placed + 2 ^ get_or c.args.order.now c.loop-entry.entry-index 0 =
    c.with-placed.ensures.number (not_placed c.args.bounds.now c.args.count c.args.order.now c.loop-entry.entry-index c.loop-entry.placed c.loop-entry.levels.items c.loop-entry.invariant c.loop-entry-test.true) in
    omega (arith, moved, c.bits.ensures, c.requires.bounds, pow_pos c.args.count, next_within c.args.bounds.now c.args.count c.args.order.now c.loop-entry.entry-index c.loop-entry.placed c.loop-entry.levels.items c.loop-entry.invariant c.loop-entry-test.true)

pub overflow_cast-bounds : goal.overflow_cast-bounds
overflow_cast-bounds c =
    let moved : c.bits.result ≡ c.loop-entry.placed + 2 ^ get_or c.args.order.now c.loop-entry.entry-index 0 =
    c.bits.ensures ∙ c.with-placed.ensures.number (not_placed c.args.bounds.now c.args.count c.args.order.now c.loop-entry.entry-index c.loop-entry.placed c.loop-entry.levels.items c.loop-entry.invariant c.loop-entry-test.true) in
    rw moved (search (rules, c.requires.small, next_bound c.args.bounds.now c.args.count c.args.order.now c.loop-entry.entry-index c.loop-entry.placed c.loop-entry.levels.items c.loop-entry.invariant c.loop-entry-test.true))
