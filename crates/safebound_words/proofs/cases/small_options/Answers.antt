use Rattle.std.proofs.Common.{refl}
use Rattle.safebound_words.specs.Answer.{command_of, reading_of, parts_from, kind_of_word}
use Rattle.safebound_words.specs.Numbers.{number_of}
use Rattle.safebound_words.specs.Table.{over_files}
use Rattle.safebound_words.proofs.cases.small_options.Goals as goal

pub returns-clause-joined : goal.returns-clause-joined
unfolding command_of reading_of parts_from kind_of_word number_of over_files
returns-clause-joined c = refl

pub returns-clause-beside : goal.returns-clause-beside
unfolding command_of reading_of parts_from kind_of_word number_of over_files
returns-clause-beside c = refl

pub returns-clause-most : goal.returns-clause-most
unfolding command_of reading_of parts_from kind_of_word number_of over_files
returns-clause-most c = refl

pub returns-clause-past_most : goal.returns-clause-past_most
unfolding command_of reading_of parts_from kind_of_word number_of over_files
returns-clause-past_most c = refl

pub returns-clause-least : goal.returns-clause-least
unfolding command_of reading_of parts_from kind_of_word number_of over_files
returns-clause-least c = refl

pub returns-clause-past_accuracy : goal.returns-clause-past_accuracy
unfolding command_of reading_of parts_from kind_of_word number_of over_files
returns-clause-past_accuracy c = refl

pub returns-clause-twice : goal.returns-clause-twice
unfolding command_of reading_of parts_from kind_of_word number_of over_files
returns-clause-twice c = refl

pub returns-clause-next_word : goal.returns-clause-next_word
unfolding command_of reading_of parts_from kind_of_word number_of over_files
returns-clause-next_word c = refl

pub returns-clause-no_word : goal.returns-clause-no_word
unfolding command_of reading_of parts_from kind_of_word number_of over_files
returns-clause-no_word c = refl

pub returns-clause-no_digit : goal.returns-clause-no_digit
unfolding command_of reading_of parts_from kind_of_word number_of over_files
returns-clause-no_digit c = refl

pub returns-clause-wide : goal.returns-clause-wide
unfolding command_of reading_of parts_from kind_of_word number_of over_files
returns-clause-wide c = refl

pub returns-clause-sign : goal.returns-clause-sign
unfolding command_of reading_of parts_from kind_of_word number_of over_files
returns-clause-sign c = refl

pub returns-clause-no_rows : goal.returns-clause-no_rows
unfolding command_of reading_of parts_from kind_of_word number_of over_files
returns-clause-no_rows c = refl
