use Rattle.std.proofs.Common.{refl}
use Rattle.safebound_words.specs.Answer.{command_of, reading_of, parts_from, kind_of_word}
use Rattle.safebound_words.specs.Numbers.{number_of}
use Rattle.safebound_words.specs.Table.{over_files}
use Rattle.safebound_words.proofs.cases.small_counts.Goals as goal

pub returns-clause-behind : goal.returns-clause-behind
unfolding command_of reading_of parts_from kind_of_word number_of over_files
returns-clause-behind c = refl

pub returns-clause-tree : goal.returns-clause-tree
unfolding command_of reading_of parts_from kind_of_word number_of over_files
returns-clause-tree c = refl

pub returns-clause-limit : goal.returns-clause-limit
unfolding command_of reading_of parts_from kind_of_word number_of over_files
returns-clause-limit c = refl

pub returns-clause-past_most : goal.returns-clause-past_most
unfolding command_of reading_of parts_from kind_of_word number_of over_files
returns-clause-past_most c = refl

pub returns-clause-twice : goal.returns-clause-twice
unfolding command_of reading_of parts_from kind_of_word number_of over_files
returns-clause-twice c = refl

pub returns-clause-value : goal.returns-clause-value
unfolding command_of reading_of parts_from kind_of_word number_of over_files
returns-clause-value c = refl

pub returns-clause-of_demo : goal.returns-clause-of_demo
unfolding command_of reading_of parts_from kind_of_word number_of over_files
returns-clause-of_demo c = refl

pub returns-clause-of_stats : goal.returns-clause-of_stats
unfolding command_of reading_of parts_from kind_of_word number_of over_files
returns-clause-of_stats c = refl

pub returns-clause-reduced : goal.returns-clause-reduced
unfolding command_of reading_of parts_from kind_of_word number_of over_files
returns-clause-reduced c = refl

pub returns-clause-keyed : goal.returns-clause-keyed
unfolding command_of reading_of parts_from kind_of_word number_of over_files
returns-clause-keyed c = refl

pub returns-clause-of_a_file : goal.returns-clause-of_a_file
unfolding command_of reading_of parts_from kind_of_word number_of over_files
returns-clause-of_a_file c = refl

pub returns-clause-accuracy : goal.returns-clause-accuracy
unfolding command_of reading_of parts_from kind_of_word number_of over_files
returns-clause-accuracy c = refl
