use Rattle.std.proofs.Common.{◌≡◌, drop, find}
use Rattle.safebound_bounds.specs.Arguments.{is_list_of_column}
use Rattle.safebound_bounds.proofs.checking.list_of_column.Given as goal

abbrev pub invariant-loop-list : goal.invariant-loop-list
invariant-loop-list l = find (is_list_of_column l.place.entry l.place.column) (drop l.list-index l.lists) ≡ find (is_list_of_column l.place.entry l.place.column) l.lists
