use Rattle.filtered_lists.proofs.Lists.{filtered_descends, filtered_within, list_without_own, rows_without_own}
use Rattle.filtered_lists.proofs.laws.filters_stay_within_the_whole.Goals as goal

pub returns-clause-descends : goal.returns-clause-descends
returns-clause-descends c = filtered_descends

pub returns-clause-within : goal.returns-clause-within
returns-clause-within c = filtered_within

pub returns-clause-unfiltered : goal.returns-clause-unfiltered
returns-clause-unfiltered c = list_without_own

pub returns-clause-unfiltered_rows : goal.returns-clause-unfiltered_rows
returns-clause-unfiltered_rows c = rows_without_own
