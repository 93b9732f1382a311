use Rattle.std.proofs.Common.{◌∙◌}
use Rattle.std.proofs.lemmas.List.{take_all}
use Rattle.std.proofs.lemmas.Option.{IfSome_then}
use Rattle.gathered_stats.specs.PairedRows.{AreStepsOfPaired}
use Rattle.gathered_stats.specs.ShownCells.{shown_cells}
use Rattle.gathered_stats.proofs.Entries.{one_column, one_made}
use Rattle.gathered_stats.proofs.paired_rows.gather_for_other_entry.Goals as goal

pub gather_other-requires-clause-whole : goal.gather_other-requires-clause-whole
gather_other-requires-clause-whole c =
    IfSome_then c.whole_of-whole.result c.whole_of-whole.ensures
    (λ list is. is c.args.table.now.pool.now c.args.cells.now c.args.table.now.accuracy (c.requires.lists _ (c.requires.columns c.loop-column.column-index 0 c.loop-column-test.true)) c.requires.other_stats)

pub loop-column-preserved : goal.loop-column-preserved
loop-column-preserved c = (
  one_column c.args.columns.now c.loop-column.column-index c.loop-column.gathered c.push.new.self c.in_ok-gather_other.field-0 c.loop-column-test.true c.in_ok-gather_other.ensures.column
      c.loop-column.invariant.0 c.in_ok-push.ensures.ok,
  one_made (AreStepsOfPaired c.args.table.now.pool.now (shown_cells c.args.table.now) c.args.table.now.accuracy c.args.cells.now c.args.rows.now c.args.steps.now) c.loop-column.gathered c.push.new.self c.in_ok-gather_other.field-0
      c.loop-column.invariant.1 c.in_ok-gather_other.ensures.steps c.in_ok-push.ensures.ok,
)

pub returns : goal.returns
returns c = record {
  columns_are = c.loop-column.invariant.0 ∙ take_all c.loop-column.column-index c.args.columns.now c.loop-column-test.false;
  steps_are = c.loop-column.invariant.1;
}
