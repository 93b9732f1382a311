-- Statistics of small columns, for worked examples.
use Rattle.std.specs.Prelude.{ℕ, List, [], ◌∷◌}
use Rattle.std.specs.List.{zip}
use Rattle.schema_types.specs.declared.types.Kind.TheVariants as kind
use Rattle.column_stats.specs.declared.stats.ColumnStats.{ColumnStats}
use Rattle.column_stats.specs.Stats.{stats_of}

-- the statistics of a column of numbers at accuracy 1, with itself as the joined column
abbrev pub stats_with_itself : List ℕ → ColumnStats
stats_with_itself column = stats_of [] kind.Int 1 (zip column column)

-- the statistics of the column 1, 1, 1, 2, 2, 3
abbrev pub stats_of_six : ColumnStats
stats_of_six = stats_with_itself (1 ∷ 1 ∷ 1 ∷ 2 ∷ 2 ∷ 3 ∷ [])
