use Rattle.std.proofs.Common.{arith, ap, sym, subst, ◌∙◌, ◌≡◌, ◌<◌, ℕ, List, length}
use Rattle.std.specs.Prelude.{All}
use Rattle.sql_meaning.specs.Tables.{cells_of}
use Rattle.join_steps.specs.Lists.{list_at, lists_of}
use Rattle.join_steps.specs.Columns.{column_cells}
use Rattle.reduced_scans.specs.Lists.{column_of}
use Rattle.reduced_scans.specs.Wiring.{AddsUses}
use Rattle.reduced_scans.proofs.OfQuery.{read_list, read_list_within_limit}
use Rattle.reduced_scans.proofs.wiring.add_column.Goals as goal

pub add_side-requires-clause-rows : goal.add_side-requires-clause-rows
add_side-requires-clause-rows c =
    let entry = c.args.column.entry in
    let entry_in_range : entry < length c.args.scans.now = omega (arith, c.requires.column.entry, c.requires.lists.count) in
    let list : c.as_slice-list.result.now ≡ list_at (lists_of c.args.scans.now) entry =
    c.as_slice-list.ensures ∙ read_list c.args.scans.now entry c.index-scans-column.result entry_in_range c.index-scans-column.is in
    subst (λ (n : ℕ). All (λ row. row < n) c.as_slice-list.result.now) (sym c.cells_of_column-cells.ensures.rows)
    (subst (All (λ row. row < (cells_of c.args.db.now entry).rows)) (sym list) (c.requires.lists.rows entry entry_in_range))

pub add_side-requires-clause-few : goal.add_side-requires-clause-few
add_side-requires-clause-few c =
    let in_range : c.args.column.entry < length c.args.scans.now = omega (arith, c.requires.column.entry, c.requires.lists.count) in
    omega (
      arith,
      ap (λ (l : List ℕ). length l) c.as_slice-list.ensures,
      read_list_within_limit c.args.scans.now c.requires.lists.sizes c.args.column.entry c.index-scans-column.result in_range c.index-scans-column.is,
      c.requires.few,
    )

pub add_side-requires-clause-items : goal.add_side-requires-clause-items
add_side-requires-clause-items c =
    let in_range : c.args.column.entry < length c.args.scans.now = omega (arith, c.requires.column.entry, c.requires.lists.count) in
    omega (
      arith,
      ap (λ (l : List ℕ). length l) c.as_slice-list.ensures,
      read_list_within_limit c.args.scans.now c.requires.lists.sizes c.args.column.entry c.index-scans-column.result in_range c.index-scans-column.is,
      c.first_item-first.ensures.few,
      in_range,
      c.requires.lists.few,
    )

pub returns : goal.returns
returns c =
    let entry = c.args.column.entry in
    let lists = lists_of c.args.scans.now in
    let entry_in_range : entry < length c.args.scans.now = omega (arith, c.requires.column.entry, c.requires.lists.count) in
    let list : c.as_slice-list.result.now ≡ list_at lists entry =
    c.as_slice-list.ensures ∙ read_list c.args.scans.now entry c.index-scans-column.result entry_in_range c.index-scans-column.is in
    let Adds : ℕ → List ℕ → List ℕ → Type 0 =
    λ first cells l. AddsUses c.args.equality c.args.on_left first cells l (length l) c.args.known_values.now c.add_side.new.known_values c.args.uses.now.items c.add_side.new.uses.items in
    subst (λ first. Adds first (column_cells c.args.db.now (column_of c.args.column)) (list_at lists entry)) c.first_item-first.ensures.first
    (subst (λ cells. Adds c.first_item-first.result cells (list_at lists entry)) c.cells_of_column-cells.ensures.cells
    (subst (Adds c.first_item-first.result c.cells_of_column-cells.result.now) list c.in_ok-add_side.ensures))
