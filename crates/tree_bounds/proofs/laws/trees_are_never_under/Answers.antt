use Rattle.tree_bounds.proofs.Injected.{choices_within, choices_within_all}
use Rattle.tree_bounds.proofs.laws.trees_are_never_under.Goals as goal

pub returns-clause-one : goal.returns-clause-one
returns-clause-one c = choices_within

pub returns-clause-several : goal.returns-clause-several
returns-clause-several c = choices_within_all
