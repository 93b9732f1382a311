use Rattle.std.proofs.Common.{refl, sym, ◌∙◌}
use Rattle.set_bounds.proofs.OnCycles.{forest_without_one}
use Rattle.set_bounds.proofs.one_set.is_forest_within.Goals as goal

pub returns-then-not-is_within : goal.returns-then-not-is_within
returns-then-not-is_within c = (
  λ same. forest_without_one c.args.parts.now.equalities c.args.subset c.args.on_every_cycle c.requires.on_every_cycle
      (λ within. absurd (cc (sym c.if-not-is_within.true ∙ c.is_within.ensures.1 within))),
  λ closes. refl,
)
