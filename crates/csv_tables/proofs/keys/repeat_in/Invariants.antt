use Rattle.std.proofs.Common.{◌≡◌, drop}
use Rattle.csv_tables.specs.FirstPlaces.{repeat_from}
use Rattle.csv_tables.proofs.keys.repeat_in.Given as goal

abbrev pub invariant-rows : goal.invariant-rows
invariant-rows l = repeat_from 0 l.first_places ≡ repeat_from l.at (drop l.at l.first_places)
