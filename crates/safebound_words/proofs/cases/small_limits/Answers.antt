use Rattle.std.proofs.Common.{refl}
use Rattle.safebound_words.specs.Answer.{command_of, reading_of, parts_from, kind_of_word}
use Rattle.safebound_words.specs.Numbers.{number_of}
use Rattle.safebound_words.specs.Table.{over_files}
use Rattle.safebound_words.proofs.cases.small_limits.Goals as goal

pub returns-clause-run : goal.returns-clause-run
unfolding command_of reading_of parts_from kind_of_word number_of over_files
returns-clause-run c = refl

pub returns-clause-joined : goal.returns-clause-joined
unfolding command_of reading_of parts_from kind_of_word number_of over_files
returns-clause-joined c = refl

pub returns-clause-least : goal.returns-clause-least
unfolding command_of reading_of parts_from kind_of_word number_of over_files
returns-clause-least c = refl

pub returns-clause-most : goal.returns-clause-most
unfolding command_of reading_of parts_from kind_of_word number_of over_files
returns-clause-most c = refl

pub returns-clause-past_most : goal.returns-clause-past_most
unfolding command_of reading_of parts_from kind_of_word number_of over_files
returns-clause-past_most c = refl

pub returns-clause-no_byte : goal.returns-clause-no_byte
unfolding command_of reading_of parts_from kind_of_word number_of over_files
returns-clause-no_byte c = refl

pub returns-clause-twice : goal.returns-clause-twice
unfolding command_of reading_of parts_from kind_of_word number_of over_files
returns-clause-twice c = refl

pub returns-clause-no_number : goal.returns-clause-no_number
unfolding command_of reading_of parts_from kind_of_word number_of over_files
returns-clause-no_number c = refl

pub returns-clause-of_a_file : goal.returns-clause-of_a_file
unfolding command_of reading_of parts_from kind_of_word number_of over_files
returns-clause-of_a_file c = refl

pub returns-clause-of_stats : goal.returns-clause-of_stats
unfolding command_of reading_of parts_from kind_of_word number_of over_files
returns-clause-of_stats c = refl

pub returns-clause-of_demo : goal.returns-clause-of_demo
unfolding command_of reading_of parts_from kind_of_word number_of over_files
returns-clause-of_demo c = refl
