use Rattle.std.proofs.Common.{◌≡◌, map, take}
use Rattle.csv_tables.specs.Cells.{value_of_cell}
use Rattle.stats_file_of_query.specs.Data.{datum_of}
use Rattle.stats_file_of_query.specs.Pairs.{frequent_in}
use Rattle.stats_file_of_query.proofs.data.frequent_values.Given as goal

abbrev pub invariant-loop-found : goal.invariant-loop-found
invariant-loop-found l = l.values ≡ map (frequent_in (λ cell. datum_of (value_of_cell l.pool l.kind cell))) (take l.found-index l.frequent)
