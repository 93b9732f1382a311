use Rattle.std.proofs.Common.{ap, ◌∙◌}
use Rattle.cond_stats.specs.Columns.{CellColumn, cell_le}
use Rattle.cond_stats.specs.Leaves.{cuts}
use Rattle.cond_stats.proofs.column.FilterColumn.cuts.Goals as goal

pub returns : goal.returns
returns c = c.as_slice.ensures.value ∙ c.self.invariant.cuts_are ∙ ap (λ (v : CellColumn). cuts (cell_le v.texts v.kind) v.cells) c.self.view_is
