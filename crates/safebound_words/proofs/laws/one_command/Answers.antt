use Rattle.safebound_words.proofs.Readings.{asked_computed, computed_asked}
use Rattle.safebound_words.proofs.laws.one_command.Goals as goal

pub returns-clause-one : goal.returns-clause-one
returns-clause-one c words one other is same =
    let first = asked_computed words one is in
    let second = asked_computed words other same in cc

pub returns-clause-computed : goal.returns-clause-computed
returns-clause-computed c words request = (asked_computed words request, computed_asked words request)
