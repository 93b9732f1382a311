use Rattle.csv.specs.Records.{fields_of}
use Rattle.csv_tables.proofs.HeaderFacts.{FoundSoFar}
use Rattle.csv_tables.proofs.header.place_of.Given as goal

abbrev pub invariant-fields : goal.invariant-fields
invariant-fields l = FoundSoFar l.name (fields_of l.header) l.found l.at
