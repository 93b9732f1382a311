use Rattle.std.proofs.Common.{arith, ◌∙◌, ◌<◌, length, false}
use Rattle.counted_sets.specs.Sets.{marked}
use Rattle.reduced_scans.proofs.MarkedRows.{count_after_marked_row, count_after_unmarked_row}
use Rattle.reduced_scans.proofs.reducing.marked_count.Goals.{then-stays, else-stays}
use Rattle.reduced_scans.proofs.reducing.marked_count.Goals as goal

pub rows-preserved : goal.rows-preserved
rows-preserved c =
    let kept = marked c.args.marks.now.items in
    let list = c.args.list.now in
    let in_range : c.rows.at < length list = omega arith in
    elim c.if-stays.branch [
      | then-stays w ↦ record {
        rows = rw w.count-is (omega (arith, c.rows.invariant.rows, count_after_marked_row kept c.args.first list c.rows.at in_range (c.get-stays.ensures false ∙ w.if-stays.true)));
        few = rw w.count-is (omega (arith, c.rows.invariant.few));
      }
      | else-stays w ↦ record {
        rows = rw w.count-is (omega (arith, c.rows.invariant.rows, count_after_unmarked_row kept c.args.first list c.rows.at in_range (c.get-stays.ensures false ∙ w.if-stays.false)));
        few = rw w.count-is (omega (arith, c.rows.invariant.few));
      }
    ]
