use Rattle.key_carriers.proofs.Ascending.{none_above, none_below, some_within}
use Rattle.key_carriers.proofs.key_rows.place_from.Goals as goal

pub returns-then-cell-first : goal.returns-then-cell-first
returns-then-cell-first c = none_below c.args.first c.args.rows c.args.cell c.if-cell-first.true

pub returns-then-place-rows : goal.returns-then-place-rows
returns-then-place-rows c = some_within c.args.first c.args.rows c.args.cell c.if-cell-first.false c.if-place-rows.true

pub returns-else-place-rows : goal.returns-else-place-rows
returns-else-place-rows c = none_above c.args.first c.args.rows c.args.cell c.if-cell-first.false c.if-place-rows.false
