use Rattle.std.proofs.Common.{refl}
use Rattle.cond_stats.specs.Leaves.{cuts}
use Rattle.cond_stats.specs.Lists.{rest, list_of_value, list_of_node}
use Rattle.cond_stats.proofs.examples.values.Goals as goal

pub returns-clause-absent_among_forty : goal.returns-clause-absent_among_forty
unfolding cuts rest list_of_value list_of_node
returns-clause-absent_among_forty c = refl

pub returns-clause-absent_among_three : goal.returns-clause-absent_among_three
unfolding cuts rest list_of_value list_of_node
returns-clause-absent_among_three c = refl

pub returns-clause-no_rows : goal.returns-clause-no_rows
unfolding cuts rest list_of_value list_of_node
returns-clause-no_rows c = refl

pub returns-clause-thirty_second : goal.returns-clause-thirty_second
unfolding cuts rest list_of_value list_of_node
returns-clause-thirty_second c = refl

pub returns-clause-thirty_third : goal.returns-clause-thirty_third
unfolding cuts rest list_of_value list_of_node
returns-clause-thirty_third c = refl
