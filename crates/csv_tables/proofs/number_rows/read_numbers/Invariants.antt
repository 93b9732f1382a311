use Rattle.csv_tables.proofs.NumberRowFacts.{NumbersSoFar}
use Rattle.csv_tables.proofs.number_rows.read_numbers.Given as goal

abbrev pub invariant-places : goal.invariant-places
invariant-places l = NumbersSoFar l.bytes l.start l.at l.place l.cells
