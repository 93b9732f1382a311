use Rattle.std.proofs.Common.{ap, sym, ◌∙◌, cond}
use Rattle.csv_tables.specs.Cells.{value_of_cell}
use Rattle.csv_tables.specs.Numbers.{number_in}
use Rattle.csv_tables.specs.Values.{Int}
use Rattle.cond_stats.specs.Columns.{value_le}
use Rattle.cond_stats.proofs.LastPlaces.{last_place_step, last_place_of_all}
use Rattle.cond_stats.proofs.cut_leaves.leaf_of_int.Goals as goal
use Rattle.cond_stats.proofs.cut_leaves.leaf_of_int.Goals.{then-is_at_most_int, else-is_at_most_int}

pub loop-i-preserved : goal.loop-i-preserved
loop-i-preserved c texts = last_place_step (λ cut. value_le (value_of_cell texts c.args.kind cut) (Int (number_in c.args.number))) c.args.cuts.now c.loop-i.i c.loop-i.leaf c.if-is_at_most_int.leaf c.is_at_most_int.result c.loop-i-test.true (c.loop-i.invariant texts) (c.is_at_most_int.ensures texts)
    (elim c.if-is_at_most_int.branch [
      | then-is_at_most_int w ↦ w.leaf-is ∙ ap (λ b. cond b c.loop-i.i c.loop-i.leaf) (sym w.if-is_at_most_int.true)
      | else-is_at_most_int w ↦ w.leaf-is ∙ ap (λ b. cond b c.loop-i.i c.loop-i.leaf) (sym w.if-is_at_most_int.false)
    ])

pub returns : goal.returns
returns c texts = last_place_of_all (λ cut. value_le (value_of_cell texts c.args.kind cut) (Int (number_in c.args.number))) c.args.cuts.now c.loop-i.i c.loop-i.leaf c.loop-i-test.false (c.loop-i.invariant texts)
