use Rattle.std.proofs.Common.{[], ◌∷◌, true, false, refl}
use Rattle.std.specs.List.{range_with_len}
use Rattle.query_grammar.specs.declared.tree.Op.TheVariants as op
use Rattle.query_types.specs.declared.types.Cond.{Or}
use Rattle.query_types.proofs.CondFacts.{entries_compare, entries_not, entries_or}
use Rattle.cond_stats.specs.Leaves.{cuts}
use Rattle.cond_stats.specs.Lists.{list_of_node, list_of_value, rest}
use Rattle.filtered_lists.specs.Examples.{column_x, number, x_is}
use Rattle.filtered_lists.specs.Lists.{list_answers}
use Rattle.filtered_lists.proofs.Parts.{conjunction_of_compare, conjunction_of_not, conjunction_of_or}
use Rattle.filtered_lists.proofs.Worked as worked
use Rattle.filter_examples.specs.Columns.{lists_of}
use Rattle.filter_examples.proofs.small_columns.Goals as goal

pub returns-clause-absent_among_forty : goal.returns-clause-absent_among_forty
unfolding cuts rest list_of_value list_of_node
returns-clause-absent_among_forty c = worked.list_of_own_comparison (lists_of (range_with_len 1 40)) op.Eq column_x (number 99) refl

pub returns-clause-absent_among_three : goal.returns-clause-absent_among_three
unfolding cuts rest list_of_value list_of_node
returns-clause-absent_among_three c = worked.list_of_own_comparison (lists_of (1 ∷ 2 ∷ 3 ∷ [])) op.Eq column_x (number 99) refl

pub returns-clause-ends_swapped : goal.returns-clause-ends_swapped
unfolding cuts rest list_of_value list_of_node
returns-clause-ends_swapped c = worked.ends_swapped (lists_of (range_with_len 1 32))

pub returns-clause-thrice : goal.returns-clause-thrice
unfolding cuts rest list_of_value list_of_node
returns-clause-thrice c = rw (
  entries_or (x_is op.Eq 1 ∷ x_is op.Eq 1 ∷ x_is op.Eq 1 ∷ []),
  entries_compare op.Eq column_x (number 1),
  conjunction_of_or (list_answers (lists_of (1 ∷ 1 ∷ 1 ∷ 2 ∷ 2 ∷ 3 ∷ []))) (x_is op.Eq 1 ∷ x_is op.Eq 1 ∷ x_is op.Eq 1 ∷ []) true,
  conjunction_of_compare (list_answers (lists_of (1 ∷ 1 ∷ 1 ∷ 2 ∷ 2 ∷ 3 ∷ []))) op.Eq column_x (number 1) true,
) refl

pub returns-clause-not_in : goal.returns-clause-not_in
unfolding cuts rest list_of_value list_of_node
returns-clause-not_in c = rw (
  entries_not (Or (x_is op.Eq 1 ∷ x_is op.Eq 3 ∷ [])),
  entries_or (x_is op.Eq 1 ∷ x_is op.Eq 3 ∷ []),
  entries_compare op.Eq column_x (number 1),
  entries_compare op.Eq column_x (number 3),
  conjunction_of_not (list_answers (lists_of (1 ∷ 1 ∷ 1 ∷ 2 ∷ 2 ∷ 3 ∷ []))) (Or (x_is op.Eq 1 ∷ x_is op.Eq 3 ∷ [])) true,
  conjunction_of_or (list_answers (lists_of (1 ∷ 1 ∷ 1 ∷ 2 ∷ 2 ∷ 3 ∷ []))) (x_is op.Eq 1 ∷ x_is op.Eq 3 ∷ []) false,
  conjunction_of_compare (list_answers (lists_of (1 ∷ 1 ∷ 1 ∷ 2 ∷ 2 ∷ 3 ∷ []))) op.Eq column_x (number 1) false,
  conjunction_of_compare (list_answers (lists_of (1 ∷ 1 ∷ 1 ∷ 2 ∷ 2 ∷ 3 ∷ []))) op.Eq column_x (number 3) false,
) refl

pub returns-clause-other_than_one : goal.returns-clause-other_than_one
unfolding cuts rest list_of_value list_of_node
returns-clause-other_than_one c = refl

pub returns-clause-other_than_three : goal.returns-clause-other_than_three
unfolding cuts rest list_of_value list_of_node
returns-clause-other_than_three c = refl

pub returns-clause-same : goal.returns-clause-same
unfolding cuts rest list_of_value list_of_node
returns-clause-same c = worked.list_of_own_comparison (lists_of (1 ∷ 1 ∷ 1 ∷ 2 ∷ 2 ∷ 3 ∷ [])) op.Eq column_x column_x refl
