use Rattle.std.proofs.Common.{◌≡◌, ◌<◌, ◌≤◌, ◌^◌, List, length, get_or, sum, ap, subst, sym, ◌∙◌}
use Rattle.std.specs.List.{All, zip}
use Rattle.std.proofs.lemmas.Option.{get_or_from_slice_get}
use Rattle.std.proofs.lemmas.Result.{IfOk-weaker}
use Rattle.schema_types.specs.declared.types.Kind.{Kind}
use Rattle.schema_types.specs.declared.types.Kind.TheVariants as kind
use Rattle.cond_stats.specs.Lists.{list_of_value}
use Rattle.filtered_lists.specs.Lists.{ColumnLists}
use Rattle.predicate_bounds.specs.Steps.{value_of}
use Rattle.table_stats.specs.Cells.{IsCellFor}
use Rattle.gathered_stats.specs.declared.filters.SortedColumn.{SortedColumn}
use Rattle.gathered_stats.specs.Columns.{AreListsOfKeys}
use Rattle.gathered_stats.specs.ShownCells.{shown_cells}
use Rattle.gathered_stats.specs.Filters.{IsColumnIn, IsFilterOf}
use Rattle.gathered_stats.proofs.Asking.{literal_list, literal_list_within_limit}
use Rattle.gathered_stats.proofs.ShownCells.{shown_kinds}
use Rattle.gathered_stats.proofs.entry_table.EntryTable.list_of_literal.Goals as goal

pub get-kind-requires : goal.get-kind-requires
get-kind-requires c =
    let is : IsColumnIn c.args.self.now.pool.now (shown_cells c.args.self.now) c.args.column c.find-sorted.result.now =
    c.find-sorted.ensures c.args.self.now.pool.now (shown_cells c.args.self.now)
    (subst (λ (s : List SortedColumn). All (IsFilterOf c.args.self.now.pool.now (shown_cells c.args.self.now)) s) (sym c.as_slice.ensures) c.requires.ready.filters) in
    subst (λ (kinds : List Kind). c.args.column < length kinds) (shown_kinds c.args.self.now) is.exists

pub list_of_cell-requires-clause-column : goal.list_of_cell-requires-clause-column
list_of_cell-requires-clause-column c =
    c.find-sorted.ensures c.args.self.now.pool.now (shown_cells c.args.self.now)
    (subst (λ (s : List SortedColumn). All (IsFilterOf c.args.self.now.pool.now (shown_cells c.args.self.now)) s) (sym c.as_slice.ensures) c.requires.ready.filters)

pub returns-clause-list : goal.returns-clause-list
returns-clause-list c =
    let is : IsColumnIn c.args.self.now.pool.now (shown_cells c.args.self.now) c.args.column c.find-sorted.result.now =
    c.find-sorted.ensures c.args.self.now.pool.now (shown_cells c.args.self.now)
    (subst (λ (s : List SortedColumn). All (IsFilterOf c.args.self.now.pool.now (shown_cells c.args.self.now)) s) (sym c.as_slice.ensures) c.requires.ready.filters) in
    let stands : IsCellFor c.args.self.now.pool.now _ (value_of c.args.literal.now) c.cell_of_literal-cell.result =
    subst (λ (k : Kind). IsCellFor c.args.self.now.pool.now k (value_of c.args.literal.now) c.cell_of_literal-cell.result)
    (sym (ap (λ (kinds : List Kind). get_or kinds c.args.column kind.Int) (shown_kinds c.args.self.now)
    ∙ get_or_from_slice_get c.args.self.now.cells.now.kinds c.args.column c.get-kind.result.now kind.Int c.get-kind.ensures)) c.cell_of_literal-cell.ensures in
    IfOk-weaker c.list_of_cell.result
    (λ list. list ≡ list_of_value c.args.self.now.accuracy (zip c.find-sorted.result.now.cells c.args.keys.now) c.cell_of_literal-cell.result)
    (λ list. (lists : ColumnLists) → AreListsOfKeys c.args.self.now.pool.now (shown_cells c.args.self.now) c.args.self.now.accuracy c.args.keys.now lists → list ≡ lists.equal c.args.column (value_of c.args.literal.now))
    (λ list made lists have. literal_list c.args.self.now.pool.now (shown_cells c.args.self.now) c.args.self.now.accuracy c.args.keys.now lists have c.args.column (value_of c.args.literal.now)
    c.cell_of_literal-cell.result c.find-sorted.result.now list is stands made)
    c.list_of_cell.ensures.list

pub returns-clause-small : goal.returns-clause-small
returns-clause-small c =
    IfOk-weaker c.list_of_cell.result
    (λ list. list ≡ list_of_value c.args.self.now.accuracy (zip c.find-sorted.result.now.cells c.args.keys.now) c.cell_of_literal-cell.result)
    (λ list. sum list ≤ 2 ^ 32)
    (λ list made. literal_list_within_limit c.args.self.now.accuracy (shown_cells c.args.self.now).rows c.find-sorted.result.now.cells c.args.keys.now list c.cell_of_literal-cell.result c.requires.keys c.requires.ready.rows made)
    c.list_of_cell.ensures.list
