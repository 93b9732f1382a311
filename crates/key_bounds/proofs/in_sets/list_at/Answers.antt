use Rattle.std.proofs.Common.{sym}
use Rattle.key_bounds.proofs.Made.{listed_sum_fits}
use Rattle.key_bounds.proofs.in_sets.list_at.Goals as goal

pub returns-clause-small : goal.returns-clause-small
returns-clause-small c = listed_sum_fits c.args.lists.now c.args.place.entry c.args.place.column c.in-Some.list.now (sym c.in-Some.ensures)
