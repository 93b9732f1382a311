use Rattle.level_bounds.proofs.EqualityFacts.{equality_is_conjunct, equality_names, equality_holds}
use Rattle.level_bounds.proofs.laws.equalities_are_conjuncts.Goals as goal

pub returns-clause-stand : goal.returns-clause-stand
returns-clause-stand c = equality_is_conjunct

pub returns-clause-name : goal.returns-clause-name
returns-clause-name c = equality_names

pub returns-clause-hold : goal.returns-clause-hold
returns-clause-hold c = equality_holds
