use Rattle.relabelling_laws.proofs.Columns.{degree_unchanged, degree_list_unchanged, frequent_is, remaining_is}
use Rattle.relabelling_laws.proofs.laws.columns_are_relabelled.Goals as goal

pub returns-clause-degree : goal.returns-clause-degree
returns-clause-degree c = degree_unchanged

pub returns-clause-degrees : goal.returns-clause-degrees
returns-clause-degrees c = degree_list_unchanged

pub returns-clause-frequent : goal.returns-clause-frequent
returns-clause-frequent c = frequent_is

pub returns-clause-remaining : goal.returns-clause-remaining
returns-clause-remaining c = remaining_is
