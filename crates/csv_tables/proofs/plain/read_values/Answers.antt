use Rattle.std.proofs.Common.{◌∙◌, ap, sym, subst, arith, refl, ◌<◌, length}
use Rattle.std.specs.Prelude.{option_map, IfSome}
use Rattle.csv_tables.specs.Cells.{value_of_cell, IsCell}
use Rattle.csv_tables.specs.Fields.{record_of}
use Rattle.csv_tables.proofs.RowFacts.{row_more}
use Rattle.csv_tables.proofs.plain.read_values.Goals as goal

pub columns-preserved : goal.columns-preserved
columns-preserved c =
    let column = c.index-columns-at.result in
    let new = c.cell_at.new.pool in
    let within : c.columns.at < length c.args.places.now = omega (arith, c.columns-test.true, c.requires.paired) in
    rw c.in_ok-push.ensures.items
    (row_more c.args.number c.columns.at c.args.columns.now c.args.places.now (record_of c.args.bytes.now c.args.fields.now) c.args.pool.now c.columns.pool new c.columns.cells.items column _ c.in-Some.cell
    c.columns-test.true within c.index-columns-at.is refl c.columns.invariant
    (sym (ap (option_map (value_of_cell new column.kind)) c.in-Some.is) ∙ c.in_ok-cell.ensures.value)
    (subst (λ o. IfSome o (IsCell new column.kind)) c.in-Some.is c.in_ok-cell.ensures.cell)
    c.in_ok-cell.ensures.begins c.in_ok-cell.ensures.few)
