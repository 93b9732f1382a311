use Rattle.text_answers.proofs.SmallQueries.{whole, other_kind, number_first, from_first, of_two_entries}
use Rattle.text_answers.proofs.examples.small_queries.Goals as goal

pub returns-clause-whole : goal.returns-clause-whole
returns-clause-whole c = whole

pub returns-clause-other_kind : goal.returns-clause-other_kind
returns-clause-other_kind c = other_kind

pub returns-clause-number_first : goal.returns-clause-number_first
returns-clause-number_first c = number_first

pub returns-clause-from_first : goal.returns-clause-from_first
returns-clause-from_first c = from_first

pub returns-clause-of_two_entries : goal.returns-clause-of_two_entries
returns-clause-of_two_entries c = of_two_entries
