use Rattle.std.proofs.Common.{ℕ, Bool, ap, not, refl, sym, ◌∙◌}
use Rattle.csv_tables.specs.Cells.{value_of_cell}
use Rattle.appended_stats.specs.Grown.{is_frequent}
use Rattle.appended_stats.proofs.Others.{all_others, no_other_more, one_other_more}
use Rattle.appended_stats.proofs.rest.other_cells.Goals as goal
use Rattle.appended_stats.proofs.rest.other_cells.Goals.{then-not-is_frequent+in_ok-insert, else-not-is_frequent}

pub loop-cell-preserved : goal.loop-cell-preserved
loop-cell-preserved c =
    let p : ℕ → Bool = λ cell. not (is_frequent c.args.frequent.now (value_of_cell c.args.pool.now c.args.kind cell)) in
    elim c.if-not-is_frequent.branch [
      | then-not-is_frequent+in_ok-insert w ↦ rw w.others-is (one_other_more p c.args.cells.now c.loop-cell.others.keys w.insert.new.self.keys c.loop-cell.cell-index c.loop-cell-test.true
          c.loop-cell.invariant (ap not (sym c.is_frequent.ensures ∙ w.if-not-is_frequent.true)) w.in_ok-insert.ensures.keys)
      | else-not-is_frequent w ↦ rw w.others-is (no_other_more p c.args.cells.now c.loop-cell.others.keys c.loop-cell.others.keys c.loop-cell.cell-index c.loop-cell-test.true
          c.loop-cell.invariant (ap not (sym c.is_frequent.ensures ∙ w.if-not-is_frequent.false)) refl)
    ]

pub returns : goal.returns
returns c =
    all_others (λ cell. not (is_frequent c.args.frequent.now (value_of_cell c.args.pool.now c.args.kind cell))) c.args.cells.now c.loop-cell.others.keys c.loop-cell.cell-index
    c.loop-cell-test.false c.loop-cell.invariant
