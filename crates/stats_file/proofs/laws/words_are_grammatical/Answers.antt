use Rattle.stats_file.proofs.WordFacts.{hex_word, list_word, numeral, signed_numeral}
use Rattle.stats_file.proofs.laws.words_are_grammatical.Goals as goal

pub returns-clause-numbers : goal.returns-clause-numbers
returns-clause-numbers c = numeral

pub returns-clause-signed : goal.returns-clause-signed
returns-clause-signed c = signed_numeral

pub returns-clause-bytes : goal.returns-clause-bytes
returns-clause-bytes c = hex_word

pub returns-clause-lists : goal.returns-clause-lists
returns-clause-lists c = list_word
