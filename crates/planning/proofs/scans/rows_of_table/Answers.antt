use Rattle.std.proofs.Common.{ℕ, List, length, get_or, refl, ap, sym, ◌∙◌, arith}
use Rattle.csv_tables.specs.declared.types.Cells.{Cells}
use Rattle.sql_meaning.proofs.LoopFacts.{slot_rows}
use Rattle.planning.proofs.scans.rows_of_table.Goals as goal

pub returns : goal.returns
returns c =
    ap (λ (cells : Cells). cells.rows) (sym c.index-as_slice-slot.is)
    ∙ slot_rows c.args.db.now c.requires.tables c.as_slice.result.now c.args.entry (get_or c.as_slice.result.now c.args.entry 0) c.as_slice-2.result.now c.index-as_slice-slot.result
    c.as_slice.ensures refl (omega (arith, ap (λ (s : List ℕ). length s) c.as_slice.ensures, c.requires.entry)) c.as_slice-2.ensures c.index-as_slice-slot.is
