use Rattle.std.proofs.Common.{refl}
use Rattle.safebound_words.specs.Answer.{command_of, reading_of, parts_from, kind_of_word}
use Rattle.safebound_words.specs.Numbers.{number_of}
use Rattle.safebound_words.specs.Table.{over_files}
use Rattle.safebound_words.proofs.cases.small_statistics.Goals as goal

pub returns-clause-stats : goal.returns-clause-stats
unfolding command_of reading_of parts_from kind_of_word number_of over_files
returns-clause-stats c = refl

pub returns-clause-usual : goal.returns-clause-usual
unfolding command_of reading_of parts_from kind_of_word number_of over_files
returns-clause-usual c = refl

pub returns-clause-plan : goal.returns-clause-plan
unfolding command_of reading_of parts_from kind_of_word number_of over_files
returns-clause-plan c = refl

pub returns-clause-joined : goal.returns-clause-joined
unfolding command_of reading_of parts_from kind_of_word number_of over_files
returns-clause-joined c = refl

pub returns-clause-no_name : goal.returns-clause-no_name
unfolding command_of reading_of parts_from kind_of_word number_of over_files
returns-clause-no_name c = refl

pub returns-clause-a_dash : goal.returns-clause-a_dash
unfolding command_of reading_of parts_from kind_of_word number_of over_files
returns-clause-a_dash c = refl

pub returns-clause-next_word : goal.returns-clause-next_word
unfolding command_of reading_of parts_from kind_of_word number_of over_files
returns-clause-next_word c = refl

pub returns-clause-two_files : goal.returns-clause-two_files
unfolding command_of reading_of parts_from kind_of_word number_of over_files
returns-clause-two_files c = refl

pub returns-clause-accuracy : goal.returns-clause-accuracy
unfolding command_of reading_of parts_from kind_of_word number_of over_files
returns-clause-accuracy c = refl

pub returns-clause-reduced : goal.returns-clause-reduced
unfolding command_of reading_of parts_from kind_of_word number_of over_files
returns-clause-reduced c = refl

pub returns-clause-tree : goal.returns-clause-tree
unfolding command_of reading_of parts_from kind_of_word number_of over_files
returns-clause-tree c = refl

pub returns-clause-of_run : goal.returns-clause-of_run
unfolding command_of reading_of parts_from kind_of_word number_of over_files
returns-clause-of_run c = refl

pub returns-clause-budget : goal.returns-clause-budget
unfolding command_of reading_of parts_from kind_of_word number_of over_files
returns-clause-budget c = refl

pub returns-clause-flag : goal.returns-clause-flag
unfolding command_of reading_of parts_from kind_of_word number_of over_files
returns-clause-flag c = refl

pub returns-clause-a_third : goal.returns-clause-a_third
unfolding command_of reading_of parts_from kind_of_word number_of over_files
returns-clause-a_third c = refl

pub returns-clause-limited : goal.returns-clause-limited
unfolding command_of reading_of parts_from kind_of_word number_of over_files
returns-clause-limited c = refl

pub returns-clause-past_most : goal.returns-clause-past_most
unfolding command_of reading_of parts_from kind_of_word number_of over_files
returns-clause-past_most c = refl

pub returns-clause-of_orders : goal.returns-clause-of_orders
unfolding command_of reading_of parts_from kind_of_word number_of over_files
returns-clause-of_orders c = refl
