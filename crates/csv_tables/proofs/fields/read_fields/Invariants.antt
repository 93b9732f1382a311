use Rattle.csv_tables.proofs.SpanFacts.{FieldsSoFar}
use Rattle.csv_tables.proofs.fields.read_fields.Given as goal

abbrev pub invariant-places : goal.invariant-places
invariant-places l = FieldsSoFar l.bytes l.start l.at l.place l.fields
