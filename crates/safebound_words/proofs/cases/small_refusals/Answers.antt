use Rattle.std.proofs.Common.{refl}
use Rattle.safebound_words.specs.Answer.{command_of, reading_of, parts_from, kind_of_word}
use Rattle.safebound_words.specs.Numbers.{number_of}
use Rattle.safebound_words.specs.Table.{over_files}
use Rattle.safebound_words.proofs.cases.small_refusals.Goals as goal

pub returns-clause-no_words : goal.returns-clause-no_words
unfolding command_of reading_of parts_from kind_of_word number_of over_files
returns-clause-no_words c = refl

pub returns-clause-help : goal.returns-clause-help
unfolding command_of reading_of parts_from kind_of_word number_of over_files
returns-clause-help c = refl

pub returns-clause-no_query : goal.returns-clause-no_query
unfolding command_of reading_of parts_from kind_of_word number_of over_files
returns-clause-no_query c = refl

pub returns-clause-one_too_many : goal.returns-clause-one_too_many
unfolding command_of reading_of parts_from kind_of_word number_of over_files
returns-clause-one_too_many c = refl

pub returns-clause-version : goal.returns-clause-version
unfolding command_of reading_of parts_from kind_of_word number_of over_files
returns-clause-version c = refl

pub returns-clause-letter_case : goal.returns-clause-letter_case
unfolding command_of reading_of parts_from kind_of_word number_of over_files
returns-clause-letter_case c = refl

pub returns-clause-short : goal.returns-clause-short
unfolding command_of reading_of parts_from kind_of_word number_of over_files
returns-clause-short c = refl

pub returns-clause-two_numbers : goal.returns-clause-two_numbers
unfolding command_of reading_of parts_from kind_of_word number_of over_files
returns-clause-two_numbers c = refl

pub returns-clause-past_number : goal.returns-clause-past_number
unfolding command_of reading_of parts_from kind_of_word number_of over_files
returns-clause-past_number c = refl

pub returns-clause-no_option : goal.returns-clause-no_option
unfolding command_of reading_of parts_from kind_of_word number_of over_files
returns-clause-no_option c = refl

pub returns-clause-without_number : goal.returns-clause-without_number
unfolding command_of reading_of parts_from kind_of_word number_of over_files
returns-clause-without_number c = refl

pub returns-clause-empty_number : goal.returns-clause-empty_number
unfolding command_of reading_of parts_from kind_of_word number_of over_files
returns-clause-empty_number c = refl

pub returns-clause-no_number : goal.returns-clause-no_number
unfolding command_of reading_of parts_from kind_of_word number_of over_files
returns-clause-no_number c = refl
