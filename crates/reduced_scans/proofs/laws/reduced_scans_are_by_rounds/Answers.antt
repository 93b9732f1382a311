use Rattle.join_graph.specs.Conjuncts.{equalities_of}
use Rattle.level_bounds.specs.Keys.{are_equal_at}
use Rattle.reduced_scans.specs.Rounds.{reduced_of}
use Rattle.join_steps.specs.Lists.{scans_of}
use Rattle.reduced_scans.proofs.ByRounds.{reduced_scans_by_rounds}
use Rattle.reduced_scans.proofs.OneReduced.{one_reduced}
use Rattle.reduced_scans.proofs.laws.reduced_scans_are_by_rounds.Goals as goal

pub returns-clause-are : goal.returns-clause-are
returns-clause-are c = reduced_scans_by_rounds

pub returns-clause-no_others : goal.returns-clause-no_others
returns-clause-no_others c query tables reduced are =
    one_reduced (scans_of query tables) (equalities_of query) (are_equal_at tables) reduced (reduced_of query tables) are (reduced_scans_by_rounds query tables)
