use Rattle.join_graph.proofs.FromEntries.{names_its_entries}
use Rattle.join_graph.proofs.OnePart.{all_in_one_part}
use Rattle.join_graph.proofs.laws.conjuncts_are_in_one_part.Goals as goal

pub returns-clause-of_schema : goal.returns-clause-of_schema
returns-clause-of_schema c = names_its_entries

pub returns-clause-one : goal.returns-clause-one
returns-clause-one c = all_in_one_part
