use Rattle.gathered_stats.proofs.Entries.{cells_are_valid, entry_gathered, steps_ask_within}
use Rattle.gathered_stats.proofs.gather.gather_entry.Goals as goal
use Rattle.std.proofs.Common.{arith}

pub filters_of-requires-clause-exist : goal.filters_of-requires-clause-exist
filters_of-requires-clause-exist c =
    steps_ask_within c.args.query.now c.args.db.now c.requires.database c.args.entry c.cells_in_entry-cells.result.now c.in_ok-steps.steps c.as_slice-steps.result.now c.cells_in_entry-cells.ensures
    c.in_ok-steps.ensures c.as_slice-steps.ensures

pub gather_columns-requires-clause-ready : goal.gather_columns-requires-clause-ready
gather_columns-requires-clause-ready c = record {
  cells = cells_are_valid c.args.query.now c.args.db.now c.requires.database c.args.entry c.cells_in_entry-cells.result.now c.requires.entry c.cells_in_entry-cells.ensures;
  rows = omega (arith, c.row_count-rows.ensures, c.row_count-rows.type_inv);
  filters = c.in_ok-filters_of.ensures.filters;
}

pub returns : goal.returns
returns c =
    entry_gathered c.gather_columns.result c.args.query.now c.args.db.now c.args.accuracy c.args.entry c.cells_in_entry-cells.result.now c.args.parts.now.equalities c.in_ok-columns.columns
    c.as_slice-2.result.now c.in_ok-steps.steps c.as_slice-steps.result.now c.cells_in_entry-cells.ensures (omega (arith, c.row_count-rows.ensures, c.row_count-rows.type_inv)) c.requires.equalities
    (rw c.as_slice.ensures at c.in_ok-columns.ensures) c.as_slice-2.ensures c.in_ok-steps.ensures c.as_slice-steps.ensures c.gather_columns.ensures.columns c.gather_columns.ensures.steps
