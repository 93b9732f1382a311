use Rattle.std.specs.HashMap.{get}
use Rattle.csv_tables.specs.FirstPlaces.{same_pair}
use Rattle.csv_tables.proofs.FirstPlaceFacts.{AreNumberedUpTo}
use Rattle.csv_tables.proofs.keys.number_pairs.Given as goal

abbrev pub invariant-rows : goal.invariant-rows
invariant-rows l = AreNumberedUpTo l.initial.first_places l.cells l.first_places (get same_pair l.seen) l.at
