use Rattle.std.proofs.Common.{refl}
use Rattle.safebound_words.specs.Answer.{command_of, reading_of, parts_from, kind_of_word}
use Rattle.safebound_words.specs.Numbers.{number_of}
use Rattle.safebound_words.specs.Table.{over_files}
use Rattle.safebound_words.proofs.cases.small_trees.Goals as goal

pub returns-clause-behind : goal.returns-clause-behind
unfolding command_of reading_of parts_from kind_of_word number_of over_files
returns-clause-behind c = refl

pub returns-clause-reduced : goal.returns-clause-reduced
unfolding command_of reading_of parts_from kind_of_word number_of over_files
returns-clause-reduced c = refl

pub returns-clause-most : goal.returns-clause-most
unfolding command_of reading_of parts_from kind_of_word number_of over_files
returns-clause-most c = refl

pub returns-clause-past_most : goal.returns-clause-past_most
unfolding command_of reading_of parts_from kind_of_word number_of over_files
returns-clause-past_most c = refl

pub returns-clause-of_orders : goal.returns-clause-of_orders
unfolding command_of reading_of parts_from kind_of_word number_of over_files
returns-clause-of_orders c = refl

pub returns-clause-twice : goal.returns-clause-twice
unfolding command_of reading_of parts_from kind_of_word number_of over_files
returns-clause-twice c = refl

pub returns-clause-value : goal.returns-clause-value
unfolding command_of reading_of parts_from kind_of_word number_of over_files
returns-clause-value c = refl

pub returns-clause-of_demo : goal.returns-clause-of_demo
unfolding command_of reading_of parts_from kind_of_word number_of over_files
returns-clause-of_demo c = refl
