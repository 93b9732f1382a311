use Rattle.std.proofs.Common.{◌<◌, length, arith}
use Rattle.std.specs.HashMap.{get}
use Rattle.csv_tables.specs.FirstPlaces.{same_pair}
use Rattle.csv_tables.proofs.FirstPlaceFacts.{numbered_more}
use Rattle.csv_tables.proofs.keys.number_pairs.Goals as goal

pub rows-preserved : goal.rows-preserved
rows-preserved c =
    let within : c.rows.at < length c.args.first_places.now = omega (arith, c.rows-test.true, c.requires.lengths) in
    numbered_more c.args.first_places.now c.args.cells.now c.rows.first_places (get same_pair c.rows.seen) (get same_pair c.first_or_insert.new.seen) c.rows.at c.in_ok-first_places.field-0
    within c.rows.invariant c.in_ok-first_places.ensures.first c.in_ok-first_places.ensures.kept
