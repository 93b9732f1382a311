use Rattle.std.proofs.Common.{◌≡◌, ◌<◌, ℕ, List, length, map, Some, ap, sym, subst, ◌∙◌, arith}
use Rattle.std.specs.Prelude.{All}
use Rattle.cond_stats.specs.Lists.{compressed_degrees}
use Rattle.filtered_lists.specs.Standing.{value_in_row}
use Rattle.sql_meaning.specs.Tables.{cells_of, tables_of}
use Rattle.table_stats.specs.Columns.{as_first_rows}
use Rattle.join_steps.specs.Lists.{list_at, lists_of}
use Rattle.join_steps.proofs.WholeScans.{length-lists_of}
use Rattle.reduced_scans.proofs.OfQuery.{read_list, read_list_within_limit}
use Rattle.query_bounds.proofs.Holding.{is_some_of}
use Rattle.planning.proofs.CollectedBounds.{kept_there, known_after_step}
use Rattle.planning.proofs.lists.add_new.Goals as goal

pub column_list-requires-clause-rows : goal.column_list-requires-clause-rows
column_list-requires-clause-rows c =
    let entry : ℕ = c.args.place.entry in
    let entry_in_range : entry < length c.args.lists.now = omega (arith, c.requires.column.entry, c.requires.lists.count) in
    let rows_are : c.as_slice-rows.result.now ≡ list_at (lists_of c.args.lists.now) entry =
    c.as_slice-rows.ensures ∙ read_list c.args.lists.now entry c.index-lists-place.result entry_in_range c.index-lists-place.is in
    subst (All (λ row. row < (cells_of c.args.db.now entry).rows)) (sym rows_are) (c.requires.lists.rows entry entry_in_range)

pub column_list-requires-clause-few : goal.column_list-requires-clause-few
column_list-requires-clause-few c =
    let entry : ℕ = c.args.place.entry in
    let entry_in_range : entry < length c.args.lists.now = omega (arith, c.requires.column.entry, c.requires.lists.count) in
    omega (
      arith,
      ap (λ (l : List ℕ). length l) c.as_slice-rows.ensures,
      read_list_within_limit c.args.lists.now c.requires.lists.sizes entry c.index-lists-place.result entry_in_range c.index-lists-place.is,
    )

pub add-requires-clause-total : goal.add-requires-clause-total
add-requires-clause-total c =
    let entry : ℕ = c.args.place.entry in
    let entry_in_range : entry < length c.args.lists.now = omega (arith, c.requires.column.entry, c.requires.lists.count) in
    let rows_are : c.as_slice-rows.result.now ≡ list_at (lists_of c.args.lists.now) entry =
    c.as_slice-rows.ensures ∙ read_list c.args.lists.now entry c.index-lists-place.result entry_in_range c.index-lists-place.is in
    c.requires.known.rows.there entry (omega (arith, entry_in_range, length-lists_of c.args.lists.now))
    ∙ ap Some (ap (λ (l : List ℕ). length l) (sym rows_are) ∙ sym c.in_ok-list.ensures.sum)

pub returns-clause-known : goal.returns-clause-known
returns-clause-known c =
    let entry : ℕ = c.args.place.entry in
    let column : ℕ = c.args.place.column in
    let entry_in_range : entry < length c.args.lists.now = omega (arith, c.requires.column.entry, c.requires.lists.count) in
    let rows_are : c.as_slice-rows.result.now ≡ list_at (lists_of c.args.lists.now) entry =
    c.as_slice-rows.ensures ∙ read_list c.args.lists.now entry c.index-lists-place.result entry_in_range c.index-lists-place.is in
    known_after_step c.args.db.now (lists_of c.args.lists.now) c.args.accuracy entry column c.in_ok-list.list c.args.known.now c.add.new.self c.requires.known
    (c.in_ok-list.ensures.exact
    ∙ ap (λ (rows : List ℕ). compressed_degrees c.args.accuracy (as_first_rows (map (value_in_row (tables_of c.args.db.now) entry column) rows))) rows_are)
    c.in_ok-add.ensures.set c.in_ok-add.ensures.others c.in_ok-add.ensures.rows

pub returns-clause-there : goal.returns-clause-there
returns-clause-there c = is_some_of _ c.in_ok-list.list c.in_ok-add.ensures.set

pub returns-clause-kept : goal.returns-clause-kept
returns-clause-kept c =
    kept_there c.args.db.now (lists_of c.args.lists.now) c.args.accuracy c.args.place.entry c.args.place.column c.in_ok-list.list c.args.known.now c.add.new.self
    c.in_ok-add.ensures.set c.in_ok-add.ensures.others
