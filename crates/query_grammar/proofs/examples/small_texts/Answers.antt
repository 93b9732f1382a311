use Rattle.query_grammar.proofs.SmallTexts.{precedence_spells, grouped_spells, not_twice_wrong, inner_alone_wrong}
use Rattle.query_grammar.proofs.examples.small_texts.Goals as goal

pub returns-clause-precedence : goal.returns-clause-precedence
returns-clause-precedence c = precedence_spells

pub returns-clause-grouping : goal.returns-clause-grouping
returns-clause-grouping c = grouped_spells

pub returns-clause-one_not : goal.returns-clause-one_not
returns-clause-one_not c = not_twice_wrong

pub returns-clause-inner_join : goal.returns-clause-inner_join
returns-clause-inner_join c = inner_alone_wrong
