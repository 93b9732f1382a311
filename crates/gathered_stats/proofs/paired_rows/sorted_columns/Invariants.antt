use Rattle.std.proofs.Common.{◌≡◌, map, take}
use Rattle.std.specs.List.{All}
use Rattle.gathered_stats.specs.Filters.{IsFilterOf}
use Rattle.gathered_stats.specs.ShownCells.{cells_at}
use Rattle.gathered_stats.proofs.paired_rows.sorted_columns.Given as goal

abbrev pub invariant-loop-one : goal.invariant-loop-one
invariant-loop-one l = All (IsFilterOf l.pool (cells_at l.rows l.cells)) l.filters × (map (λ f. f.column) l.filters ≡ map (λ one. one.column) (take l.one-index l.columns))
