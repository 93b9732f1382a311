use Rattle.std.proofs.Common.{List, cond, length, ap, sym, ◌∙◌, arith}
use Rattle.csv_tables.specs.Cells.{value_of_cell}
use Rattle.cond_stats.specs.Columns.{value_le}
use Rattle.stats_file.specs.declared.types.Datum.{Datum}
use Rattle.stats_file_of_query.specs.Data.{value_of}
use Rattle.stats_file_of_query.specs.Standing.{leaf_cut}
use Rattle.stats_file_of_query.proofs.Leaves.{all_leaves, cut_here, leaf_below, one_more_leaf}
use Rattle.appended_stats.proofs.compare.leaf_of_cell.Goals as goal
use Rattle.appended_stats.proofs.compare.leaf_of_cell.Goals.{then-is_at_most, else-is_at_most}

pub loop-i-preserved : goal.loop-i-preserved
loop-i-preserved c =
    one_more_leaf (λ leaf. value_le (leaf_cut c.args.pair.now leaf) (value_of_cell c.args.pool.now c.args.kind c.args.cell)) (length c.args.pair.now.cuts) c.loop-i.i c.loop-i.leaf
    c.if-is_at_most.leaf c.is_at_most.result (omega (arith, c.loop-i-test.true, ap (λ (s : List Datum). length s) c.as_slice-cut-items.ensures)) c.loop-i.invariant
    (c.is_at_most.ensures ∙ ap (λ (d : Datum). value_le (value_of d) (value_of_cell c.args.pool.now c.args.kind c.args.cell))
    (cut_here c.args.pair.now.cuts c.as_slice-cut-items.result.now c.loop-i.i c.cut-item.result c.as_slice-cut-items.ensures c.loop-i-test.true c.cut-item.is))
    (elim c.if-is_at_most.branch [
      | then-is_at_most w ↦ w.leaf-is ∙ ap (λ b. cond b c.loop-i.i c.loop-i.leaf) (sym w.if-is_at_most.true)
      | else-is_at_most w ↦ w.leaf-is ∙ ap (λ b. cond b c.loop-i.i c.loop-i.leaf) (sym w.if-is_at_most.false)
    ])

pub returns-clause-leaf : goal.returns-clause-leaf
returns-clause-leaf c =
    all_leaves (λ leaf. value_le (leaf_cut c.args.pair.now leaf) (value_of_cell c.args.pool.now c.args.kind c.args.cell)) (length c.args.pair.now.cuts) c.loop-i.i c.loop-i.leaf
    (omega (arith, c.loop-i-test.false, ap (λ (s : List Datum). length s) c.as_slice-cut-items.ensures)) c.loop-i.invariant

pub returns-clause-below : goal.returns-clause-below
returns-clause-below c =
    leaf_below (λ leaf. value_le (leaf_cut c.args.pair.now leaf) (value_of_cell c.args.pool.now c.args.kind c.args.cell)) (length c.args.pair.now.cuts) c.loop-i.leaf c.requires.cuts
    (returns-clause-leaf c)
