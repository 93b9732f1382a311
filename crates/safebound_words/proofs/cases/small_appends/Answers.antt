use Rattle.std.proofs.Common.{refl}
use Rattle.safebound_words.specs.Answer.{command_of, reading_of, parts_from, kind_of_word}
use Rattle.safebound_words.specs.Numbers.{number_of}
use Rattle.safebound_words.specs.Table.{over_files}
use Rattle.safebound_words.proofs.cases.small_appends.Goals as goal

pub returns-clause-append : goal.returns-clause-append
unfolding command_of reading_of parts_from kind_of_word number_of over_files
returns-clause-append c = refl

pub returns-clause-empty : goal.returns-clause-empty
unfolding command_of reading_of parts_from kind_of_word number_of over_files
returns-clause-empty c = refl

pub returns-clause-behind : goal.returns-clause-behind
unfolding command_of reading_of parts_from kind_of_word number_of over_files
returns-clause-behind c = refl

pub returns-clause-of_three : goal.returns-clause-of_three
unfolding command_of reading_of parts_from kind_of_word number_of over_files
returns-clause-of_three c = refl

pub returns-clause-a_fifth : goal.returns-clause-a_fifth
unfolding command_of reading_of parts_from kind_of_word number_of over_files
returns-clause-a_fifth c = refl

pub returns-clause-accuracy : goal.returns-clause-accuracy
unfolding command_of reading_of parts_from kind_of_word number_of over_files
returns-clause-accuracy c = refl

pub returns-clause-file : goal.returns-clause-file
unfolding command_of reading_of parts_from kind_of_word number_of over_files
returns-clause-file c = refl

pub returns-clause-flag : goal.returns-clause-flag
unfolding command_of reading_of parts_from kind_of_word number_of over_files
returns-clause-flag c = refl

pub returns-clause-of_run : goal.returns-clause-of_run
unfolding command_of reading_of parts_from kind_of_word number_of over_files
returns-clause-of_run c = refl
