use Rattle.std.proofs.Common.{◌≡◌, map, take}
use Rattle.std.specs.List.{All}
use Rattle.filtered_lists.specs.Lists.{ColumnLists}
use Rattle.predicate_bounds.specs.ListRuns.{with_list}
use Rattle.gathered_stats.specs.Columns.{AreListsOfKeys}
use Rattle.gathered_stats.specs.Rests.{IsRestOf}
use Rattle.gathered_stats.specs.ShownCells.{shown_cells}
use Rattle.gathered_stats.proofs.entry_table.EntryTable.list_steps_over.Given as goal

abbrev pub invariant-loop-step : goal.invariant-loop-step
invariant-loop-step l = (l.gathered.column ≡ l.column)
    × ((lists : ColumnLists) → AreListsOfKeys l.self.pool.now (shown_cells l.self) l.self.accuracy l.keys lists
    → l.gathered.steps ≡ map (with_list lists) (take l.step-index l.steps))
    × All (IsRestOf l.self l.keys) l.rests
