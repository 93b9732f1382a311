use Rattle.tree_bounds.proofs.BoundsSuffice.{number_within}
use Rattle.tree_bounds.proofs.Injected.{choice_listed}
use Rattle.tree_bounds.proofs.ChoiceLists.{length-chosen_rows}
use Rattle.tree_bounds.proofs.laws.choices_are_counted.Goals as goal

pub returns-clause-choice_is_in_list : goal.returns-clause-choice_is_in_list
returns-clause-choice_is_in_list c = choice_listed

pub returns-clause-list_length : goal.returns-clause-list_length
returns-clause-list_length c = length-chosen_rows

pub returns-clause-within : goal.returns-clause-within
returns-clause-within c = number_within
