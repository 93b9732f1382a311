use Rattle.std.proofs.Common.{◌≤◌, ℕ, List, length, ap, sym, subst, ◌∙◌, arith}
use Rattle.csv_tables.specs.Cells.{value_of_cell}
use Rattle.csv_tables.specs.Values.{Text}
use Rattle.cond_stats.specs.Columns.{CellColumn, cell_le, value_le, leaf_of_value}
use Rattle.cond_stats.specs.Leaves.{last_place}
use Rattle.cond_stats.proofs.Ranges.{length-cuts, leaf-below}
use Rattle.cond_stats.proofs.column.FilterColumn.leaf_of_text.Goals as goal

pub leaf_of_text-requires : goal.leaf_of_text-requires
leaf_of_text-requires c = subst (λ (s : List ℕ). length s ≤ 32) (sym (c.as_slice.ensures.value ∙ c.self.invariant.cuts_are)) (length-cuts (cell_le c.self.inside.pool.now c.self.inside.kind) c.self.inside.cells.now)

pub returns-clause-leaf : goal.returns-clause-leaf
returns-clause-leaf c =
    c.leaf_of_text.ensures
    ∙ ap (last_place (λ cut. value_le (value_of_cell c.self.inside.pool.now c.self.inside.kind cut) (Text c.args.text.now))) (c.as_slice.ensures.value ∙ c.self.invariant.cuts_are)
    ∙ ap (λ (v : CellColumn). leaf_of_value v.texts v.kind v.cells (Text c.args.text.now)) c.self.view_is

pub returns-clause-below : goal.returns-clause-below
returns-clause-below c =
    omega (arith, returns-clause-leaf c, leaf-below (cell_le c.args.self.now.texts c.args.self.now.kind) c.args.self.now.cells (λ cut. value_le (value_of_cell c.args.self.now.texts c.args.self.now.kind cut) (Text c.args.text.now)))
