use Rattle.std.proofs.Common.{refl}
use Rattle.safebound_words.specs.Answer.{command_of, reading_of, parts_from, kind_of_word}
use Rattle.safebound_words.specs.Numbers.{number_of}
use Rattle.safebound_words.specs.Table.{over_files}
use Rattle.safebound_words.proofs.cases.small_flags.Goals as goal

pub returns-clause-behind : goal.returns-clause-behind
unfolding command_of reading_of parts_from kind_of_word number_of over_files
returns-clause-behind c = refl

pub returns-clause-in_front : goal.returns-clause-in_front
unfolding command_of reading_of parts_from kind_of_word number_of over_files
returns-clause-in_front c = refl

pub returns-clause-between : goal.returns-clause-between
unfolding command_of reading_of parts_from kind_of_word number_of over_files
returns-clause-between c = refl

pub returns-clause-positional_word : goal.returns-clause-positional_word
unfolding command_of reading_of parts_from kind_of_word number_of over_files
returns-clause-positional_word c = refl

pub returns-clause-twice : goal.returns-clause-twice
unfolding command_of reading_of parts_from kind_of_word number_of over_files
returns-clause-twice c = refl

pub returns-clause-value : goal.returns-clause-value
unfolding command_of reading_of parts_from kind_of_word number_of over_files
returns-clause-value c = refl

pub returns-clause-value_behind : goal.returns-clause-value_behind
unfolding command_of reading_of parts_from kind_of_word number_of over_files
returns-clause-value_behind c = refl

pub returns-clause-as_a_value : goal.returns-clause-as_a_value
unfolding command_of reading_of parts_from kind_of_word number_of over_files
returns-clause-as_a_value c = refl

pub returns-clause-of_demo : goal.returns-clause-of_demo
unfolding command_of reading_of parts_from kind_of_word number_of over_files
returns-clause-of_demo c = refl

pub returns-clause-letter_case : goal.returns-clause-letter_case
unfolding command_of reading_of parts_from kind_of_word number_of over_files
returns-clause-letter_case c = refl
