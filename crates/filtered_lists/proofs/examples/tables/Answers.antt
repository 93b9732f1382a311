use Rattle.std.proofs.Common.{refl}
use Rattle.query_grammar.specs.declared.tree.Op.TheVariants as op
use Rattle.filtered_lists.specs.Examples.{column_x, number, six_rows}
use Rattle.filtered_lists.proofs.Worked.{list_of_own_comparison, thrice, not_in}
use Rattle.filtered_lists.proofs.examples.tables.Goals as goal

pub returns-clause-thrice : goal.returns-clause-thrice
returns-clause-thrice c = thrice

pub returns-clause-not_in : goal.returns-clause-not_in
returns-clause-not_in c = not_in

pub returns-clause-once : goal.returns-clause-once
returns-clause-once c = list_of_own_comparison six_rows op.Eq column_x (number 2) refl
