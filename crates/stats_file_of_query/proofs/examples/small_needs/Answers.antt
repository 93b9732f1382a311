use Rattle.stats_file_of_query.proofs.SmallNeeds.{needs_beside_filtered, needs_of_filtered, needs_of_one, needs_of_pair, of_table}
use Rattle.stats_file_of_query.proofs.examples.small_needs.Goals as goal

pub returns-clause-joined : goal.returns-clause-joined
returns-clause-joined c = needs_of_pair

pub returns-clause-filtered : goal.returns-clause-filtered
returns-clause-filtered c = needs_of_filtered

pub returns-clause-beside : goal.returns-clause-beside
returns-clause-beside c = needs_beside_filtered

pub returns-clause-of_table : goal.returns-clause-of_table
returns-clause-of_table c = of_table

pub returns-clause-compared : goal.returns-clause-compared
returns-clause-compared c = needs_of_one
