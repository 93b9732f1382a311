use Rattle.table_files.proofs.IndexFacts.{IsPassed}
use Rattle.table_files.proofs.numbers.index_of.Given as goal

abbrev pub invariant-numbers : goal.invariant-numbers
invariant-numbers l = IsPassed l.numbers l.number l.at
