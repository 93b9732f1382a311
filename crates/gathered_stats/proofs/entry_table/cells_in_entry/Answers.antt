use Rattle.std.proofs.Common.{◌≡◌, Some, ap, sym, ◌∙◌, slice_get, arith}
use Rattle.std.proofs.lemmas.Option.{get_or_from_slice_get}
use Rattle.gathered_stats.proofs.Entries.{cells_read}
use Rattle.gathered_stats.proofs.entry_table.cells_in_entry.Goals as goal

pub get-requires : goal.get-requires
get-requires c =
    let at : slice_get c.args.db.now.slots c.args.entry ≡ Some c.get-slot.result.now = ap (slice_get c.args.db.now.slots) (sym c.from.ensures) ∙ c.get-slot.ensures in
    omega (arith, get_or_from_slice_get c.args.db.now.slots c.args.entry c.get-slot.result.now 0 at, c.requires.cells)

pub returns : goal.returns
returns c =
    let at : slice_get c.args.db.now.slots c.args.entry ≡ Some c.get-slot.result.now = ap (slice_get c.args.db.now.slots) (sym c.from.ensures) ∙ c.get-slot.ensures in
    cells_read c.args.db.now c.args.entry c.get-slot.result.now c.get.result.now at c.get.ensures
