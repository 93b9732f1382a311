use Rattle.std.proofs.Common.{◌≡◌, ◌≤◌, ◌^◌, List, sum, subst, sym}
use Rattle.std.specs.List.{All, zip}
use Rattle.std.proofs.lemmas.Result.{IfOk-weaker}
use Rattle.cond_stats.specs.Columns.{cell_le}
use Rattle.cond_stats.specs.Lists.{list_of_range}
use Rattle.filtered_lists.specs.Lists.{ColumnLists}
use Rattle.predicate_bounds.specs.Steps.{range_of}
use Rattle.gathered_stats.specs.declared.filters.SortedColumn.{SortedColumn}
use Rattle.gathered_stats.specs.Columns.{AreListsOfKeys}
use Rattle.gathered_stats.specs.ShownCells.{shown_cells}
use Rattle.gathered_stats.specs.Filters.{IsColumnIn, IsFilterOf}
use Rattle.gathered_stats.proofs.Asking.{keys_as_long_as_column, range_list, range_list_within_limit}
use Rattle.gathered_stats.proofs.entry_table.EntryTable.list_within.Goals as goal

pub list_of_range-requires-clause-joined : goal.list_of_range-requires-clause-joined
list_of_range-requires-clause-joined c =
    let is : IsColumnIn c.args.self.now.pool.now (shown_cells c.args.self.now) c.args.range.now.column c.find-column.result.now =
    c.find-column.ensures c.args.self.now.pool.now (shown_cells c.args.self.now)
    (subst (λ (s : List SortedColumn). All (IsFilterOf c.args.self.now.pool.now (shown_cells c.args.self.now)) s) (sym c.as_slice.ensures) c.requires.ready.filters) in
    keys_as_long_as_column c.args.self.now.pool.now (shown_cells c.args.self.now) c.requires.ready.cells c.args.range.now.column c.find-column.result.now c.args.keys.now is c.requires.keys

pub returns-clause-list : goal.returns-clause-list
returns-clause-list c =
    let is : IsColumnIn c.args.self.now.pool.now (shown_cells c.args.self.now) c.args.range.now.column c.find-column.result.now =
    c.find-column.ensures c.args.self.now.pool.now (shown_cells c.args.self.now)
    (subst (λ (s : List SortedColumn). All (IsFilterOf c.args.self.now.pool.now (shown_cells c.args.self.now)) s) (sym c.as_slice.ensures) c.requires.ready.filters) in
    IfOk-weaker c.list_of_range.result
    (λ list. list ≡ list_of_range (cell_le c.find-column.result.now.texts c.find-column.result.now.kind) c.args.self.now.accuracy (zip c.find-column.result.now.cells c.args.keys.now) c.end_leaf-low.result c.end_leaf-high.result)
    (λ list. (lists : ColumnLists) → AreListsOfKeys c.args.self.now.pool.now (shown_cells c.args.self.now) c.args.self.now.accuracy c.args.keys.now lists → list ≡ lists.range (range_of c.args.range.now))
    (λ list made lists have. range_list c.args.self.now.pool.now (shown_cells c.args.self.now) c.args.self.now.accuracy c.args.keys.now lists have c.requires.ready.cells c.requires.keys
    (range_of c.args.range.now) c.find-column.result.now c.end_leaf-low.result c.end_leaf-high.result list is c.end_leaf-low.ensures.leaf c.end_leaf-high.ensures.leaf made)
    c.list_of_range.ensures

pub returns-clause-small : goal.returns-clause-small
returns-clause-small c =
    IfOk-weaker c.list_of_range.result
    (λ list. list ≡ list_of_range (cell_le c.find-column.result.now.texts c.find-column.result.now.kind) c.args.self.now.accuracy (zip c.find-column.result.now.cells c.args.keys.now) c.end_leaf-low.result c.end_leaf-high.result)
    (λ list. sum list ≤ 2 ^ 32)
    (λ list made. range_list_within_limit c.args.self.now.accuracy (shown_cells c.args.self.now).rows c.find-column.result.now.texts c.find-column.result.now.kind c.find-column.result.now.cells c.args.keys.now list
    c.end_leaf-low.result c.end_leaf-high.result c.requires.keys c.requires.ready.rows made)
    c.list_of_range.ensures
