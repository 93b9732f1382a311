use Rattle.filtered_lists.proofs.Worked.{ends_swapped, greatest_low, between, two_columns, literals, nested, not_and}
use Rattle.filtered_lists.proofs.examples.conditions.Goals as goal

pub returns-clause-ends_swapped : goal.returns-clause-ends_swapped
returns-clause-ends_swapped c = ends_swapped

pub returns-clause-greatest_low : goal.returns-clause-greatest_low
returns-clause-greatest_low c = greatest_low

pub returns-clause-between : goal.returns-clause-between
returns-clause-between c = between

pub returns-clause-two_columns : goal.returns-clause-two_columns
returns-clause-two_columns c = two_columns

pub returns-clause-literals : goal.returns-clause-literals
returns-clause-literals c = literals

pub returns-clause-nested : goal.returns-clause-nested
returns-clause-nested c = nested

pub returns-clause-not_and : goal.returns-clause-not_and
returns-clause-not_and c = not_and
