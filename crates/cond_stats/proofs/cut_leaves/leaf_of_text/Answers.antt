use Rattle.std.proofs.Common.{ap, sym, ◌∙◌, cond}
use Rattle.csv_tables.specs.Cells.{value_of_cell}
use Rattle.csv_tables.specs.Values.{Text}
use Rattle.cond_stats.specs.Columns.{value_le}
use Rattle.cond_stats.proofs.LastPlaces.{last_place_step, last_place_of_all}
use Rattle.cond_stats.proofs.cut_leaves.leaf_of_text.Goals as goal
use Rattle.cond_stats.proofs.cut_leaves.leaf_of_text.Goals.{then-is_at_most_text, else-is_at_most_text}

pub loop-i-preserved : goal.loop-i-preserved
loop-i-preserved c = last_place_step (λ cut. value_le (value_of_cell c.args.pool.now c.args.kind cut) (Text c.args.text.now)) c.args.cuts.now c.loop-i.i c.loop-i.leaf c.if-is_at_most_text.leaf c.is_at_most_text.result c.loop-i-test.true c.loop-i.invariant c.is_at_most_text.ensures
    (elim c.if-is_at_most_text.branch [
      | then-is_at_most_text w ↦ w.leaf-is ∙ ap (λ b. cond b c.loop-i.i c.loop-i.leaf) (sym w.if-is_at_most_text.true)
      | else-is_at_most_text w ↦ w.leaf-is ∙ ap (λ b. cond b c.loop-i.i c.loop-i.leaf) (sym w.if-is_at_most_text.false)
    ])

pub returns : goal.returns
returns c = last_place_of_all (λ cut. value_le (value_of_cell c.args.pool.now c.args.kind cut) (Text c.args.text.now)) c.args.cuts.now c.loop-i.i c.loop-i.leaf c.loop-i-test.false c.loop-i.invariant
