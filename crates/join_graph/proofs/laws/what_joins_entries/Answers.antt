use Rattle.std.proofs.Common.{refl}
use Rattle.query_types.specs.declared.types.Operand.TheVariants as operand
use Rattle.join_graph.proofs.Comparing.{equality_and, equality_or, equality_not, equality_literal, equality_literal_left, equality_one, equality_two}
use Rattle.join_graph.proofs.laws.what_joins_entries.Goals as goal

pub returns-clause-under_and : goal.returns-clause-under_and
returns-clause-under_and c = equality_and

pub returns-clause-under_or : goal.returns-clause-under_or
returns-clause-under_or c = equality_or

pub returns-clause-under_not : goal.returns-clause-under_not
returns-clause-under_not c = equality_not

pub returns-clause-number : goal.returns-clause-number
returns-clause-number c = λ left number. equality_literal left (operand.Int number) refl

pub returns-clause-text : goal.returns-clause-text
returns-clause-text c = λ left text. equality_literal left (operand.Text text) refl

pub returns-clause-number_left : goal.returns-clause-number_left
returns-clause-number_left c = λ number right. equality_literal_left (operand.Int number) right refl

pub returns-clause-text_left : goal.returns-clause-text_left
returns-clause-text_left c = λ text right. equality_literal_left (operand.Text text) right refl

pub returns-clause-one_entry : goal.returns-clause-one_entry
returns-clause-one_entry c = equality_one

pub returns-clause-two_entries : goal.returns-clause-two_entries
returns-clause-two_entries c = equality_two
