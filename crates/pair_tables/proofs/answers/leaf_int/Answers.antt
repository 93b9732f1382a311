use Rattle.std.proofs.Common.{ℤ, [], ap, ◌∙◌, arith}
use Rattle.std.proofs.lemmas.Int.{to_z-of_z}
use mir.Syntax.{w64}
use Rattle.csv_tables.specs.Cells.{value_of_cell}
use Rattle.csv_tables.specs.Values.{Int}
use Rattle.cond_stats.specs.Columns.{value_le}
use Rattle.cond_stats.specs.Leaves.{last_place}
use Rattle.column_stats.proofs.GivenLists.{leaf_below}
use Rattle.pair_tables.proofs.answers.leaf_int.Goals as goal

pub returns-clause-leaf : goal.returns-clause-leaf
returns-clause-leaf c texts =
    c.leaf_of_int.ensures texts
    ∙ ap (λ (z : ℤ). last_place (λ cut. value_le (value_of_cell texts c.args.stats.now.kind cut) (Int z)) c.as_slice.result.now) (c.cell_of.ensures.inverse ∙ to_z-of_z w64 c.args.value c.ranges.value)
    ∙ ap (last_place (λ cut. value_le (value_of_cell texts c.args.stats.now.kind cut) (Int c.args.value))) c.as_slice.ensures

pub returns-clause-below : goal.returns-clause-below
returns-clause-below c = omega (arith, returns-clause-leaf c [], leaf_below [] c.args.stats.now (Int c.args.value) c.requires)
