use Rattle.key_stats.proofs.CarriedLists.{carried_dominates, carried_descends, carried_fits, carried_sum}
use Rattle.key_stats.proofs.laws.carried_lists_stand.Goals as goal

pub returns-clause-dominates : goal.returns-clause-dominates
returns-clause-dominates c = λ query tables accuracy e column key tells. carried_dominates query tables e accuracy column key tells

pub returns-clause-fits : goal.returns-clause-fits
returns-clause-fits c = carried_fits

pub returns-clause-descends : goal.returns-clause-descends
returns-clause-descends c = λ query tables accuracy e column. carried_descends query tables e accuracy column

pub returns-clause-sums : goal.returns-clause-sums
returns-clause-sums c = λ query tables accuracy e column. carried_sum query tables e accuracy column
