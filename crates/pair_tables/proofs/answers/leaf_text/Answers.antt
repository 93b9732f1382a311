use Rattle.std.proofs.Common.{ap, ◌∙◌, arith}
use Rattle.csv_tables.specs.Cells.{value_of_cell}
use Rattle.csv_tables.specs.Values.{Text}
use Rattle.cond_stats.specs.Columns.{value_le}
use Rattle.cond_stats.specs.Leaves.{last_place}
use Rattle.column_stats.proofs.GivenLists.{leaf_below}
use Rattle.pair_tables.proofs.answers.leaf_text.Goals as goal

pub returns-clause-leaf : goal.returns-clause-leaf
returns-clause-leaf c =
    c.leaf_of_text.ensures ∙ ap (last_place (λ cut. value_le (value_of_cell c.args.pool.now c.args.stats.now.kind cut) (Text c.args.text.now))) c.as_slice.ensures

pub returns-clause-below : goal.returns-clause-below
returns-clause-below c = omega (arith, returns-clause-leaf c, leaf_below c.args.pool.now c.args.stats.now (Text c.args.text.now) c.requires)
