use Rattle.schema_grammar.proofs.SmallTexts.{whole_text_spells, unfinished_text_error, zero_length_error, empty_text_error}
use Rattle.schema_grammar.proofs.examples.small_texts.Goals as goal

pub returns-clause-spells : goal.returns-clause-spells
returns-clause-spells c = whole_text_spells

pub returns-clause-needs_more : goal.returns-clause-needs_more
returns-clause-needs_more c = unfinished_text_error

pub returns-clause-has_zero_length : goal.returns-clause-has_zero_length
returns-clause-has_zero_length c = zero_length_error

pub returns-clause-is_empty : goal.returns-clause-is_empty
returns-clause-is_empty c = empty_text_error
