use Rattle.std.proofs.Common.{◌≤◌, ◌+◌, length}
use Rattle.reduced_scans.specs.Wiring.{AddsUses}
use Rattle.reduced_scans.proofs.wiring.add_side.Given as goal

abbrev pub invariant-rows : goal.invariant-rows
invariant-rows l = record {
  adds : AddsUses l.equality l.on_left l.first l.cells l.list l.at l.initial.known_values l.known_values l.initial.uses.items l.uses.items;
  spare : length l.list ≤ l.uses.spare + l.at;
}
