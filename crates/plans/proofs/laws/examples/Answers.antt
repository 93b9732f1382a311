use Rattle.std.proofs.Common.{[], ◌∷◌, refl, lit<, true≢false}
use Rattle.std.specs.List.{IsDistinct}
use Rattle.plans.specs.LeftDeep.{IsOrder}
use Rattle.plans.proofs.laws.examples.Goals as goal

in_order : IsOrder 3 (0 ∷ (2 ∷ (1 ∷ [])))
unfolding IsDistinct
in_order = record { entries = (lit< tt, (lit< tt, (lit< tt, tt))); once = ((refl, (refl, tt)), ((refl, tt), (tt, tt))); all = refl }

pub returns-clause-order : goal.returns-clause-order
returns-clause-order c = in_order

pub returns-clause-twice : goal.returns-clause-twice
unfolding IsDistinct
returns-clause-twice c h = absurd (true≢false h.once.0.1.0)

pub returns-clause-plan : goal.returns-clause-plan
returns-clause-plan c = record { order = in_order; scans = refl; levels = refl }
