use Rattle.std.proofs.Common.{codes, refl}
use Rattle.query_grammar.specs.declared.tree.Op.TheVariants as op
use Rattle.query_types.specs.declared.types.Operand.TheVariants as operand
use Rattle.filtered_lists.specs.Examples.{column_of_other, column_x, column_y, number}
use Rattle.filtered_lists.proofs.Worked.{list_of_own_comparison, list_of_other_comparison, not_at_least}
use Rattle.filtered_lists.proofs.examples.comparisons.Goals as goal

pub returns-clause-equal : goal.returns-clause-equal
returns-clause-equal c = λ lists. list_of_own_comparison lists op.Eq column_x (number 5) refl

pub returns-clause-unequal : goal.returns-clause-unequal
returns-clause-unequal c = λ lists. list_of_own_comparison lists op.Ne column_x (number 5) refl

pub returns-clause-less : goal.returns-clause-less
returns-clause-less c = λ lists. list_of_own_comparison lists op.Lt column_x (number 5) refl

pub returns-clause-turned : goal.returns-clause-turned
returns-clause-turned c = λ lists. list_of_own_comparison lists op.Lt (number 1) column_x refl

pub returns-clause-not_at_least : goal.returns-clause-not_at_least
returns-clause-not_at_least c = not_at_least

pub returns-clause-text : goal.returns-clause-text
returns-clause-text c = λ lists. list_of_own_comparison lists op.Gt column_x (operand.Text (codes "b")) refl

pub returns-clause-itself : goal.returns-clause-itself
returns-clause-itself c = λ lists. list_of_own_comparison lists op.Eq column_x column_y refl

pub returns-clause-joins : goal.returns-clause-joins
returns-clause-joins c = λ lists. list_of_other_comparison lists op.Eq column_x column_of_other refl
