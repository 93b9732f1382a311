use Rattle.std.proofs.Common.{refl}
use Rattle.safebound_words.specs.Answer.{command_of, reading_of, parts_from, kind_of_word}
use Rattle.safebound_words.specs.Numbers.{number_of}
use Rattle.safebound_words.specs.Table.{over_files}
use Rattle.safebound_words.proofs.cases.small_commands.Goals as goal

pub returns-clause-run : goal.returns-clause-run
unfolding command_of reading_of parts_from kind_of_word number_of over_files
returns-clause-run c = refl

pub returns-clause-audit : goal.returns-clause-audit
unfolding command_of reading_of parts_from kind_of_word number_of over_files
returns-clause-audit c = refl

pub returns-clause-dash : goal.returns-clause-dash
unfolding command_of reading_of parts_from kind_of_word number_of over_files
returns-clause-dash c = refl

pub returns-clause-empty : goal.returns-clause-empty
unfolding command_of reading_of parts_from kind_of_word number_of over_files
returns-clause-empty c = refl

pub returns-clause-number : goal.returns-clause-number
unfolding command_of reading_of parts_from kind_of_word number_of over_files
returns-clause-number c = refl

pub returns-clause-zeros : goal.returns-clause-zeros
unfolding command_of reading_of parts_from kind_of_word number_of over_files
returns-clause-zeros c = refl

pub returns-clause-last_number : goal.returns-clause-last_number
unfolding command_of reading_of parts_from kind_of_word number_of over_files
returns-clause-last_number c = refl

pub returns-clause-behind : goal.returns-clause-behind
unfolding command_of reading_of parts_from kind_of_word number_of over_files
returns-clause-behind c = refl

pub returns-clause-value_behind : goal.returns-clause-value_behind
unfolding command_of reading_of parts_from kind_of_word number_of over_files
returns-clause-value_behind c = refl

pub returns-clause-number_behind : goal.returns-clause-number_behind
unfolding command_of reading_of parts_from kind_of_word number_of over_files
returns-clause-number_behind c = refl
