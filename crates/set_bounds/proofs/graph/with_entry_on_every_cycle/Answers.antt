use Rattle.std.proofs.Common.{sym, ◌∙◌}
use Rattle.set_bounds.proofs.OnCycles.{not_on_every_cycle, one_more_on_every_cycle}
use Rattle.set_bounds.proofs.graph.with_entry_on_every_cycle.Goals as goal

pub returns-then-forest : goal.returns-then-forest
returns-then-forest c =
    one_more_on_every_cycle c.args.parts.now.equalities c.args.all c.without.result c.args.entry c.without.ensures.entries c.args.found c.requires.found
    c.with.result c.with.ensures.entries (c.in_ok-forest.ensures.0 c.if-forest.true)

pub returns : goal.returns
returns c =
    not_on_every_cycle c.args.parts.now.equalities c.args.all c.without.result c.args.entry c.without.ensures.entries c.args.found c.requires.found
    (λ closes. absurd (cc (sym c.if-forest.false ∙ c.in_ok-forest.ensures.1 closes)))
