use Rattle.std.proofs.Common.{◌≡◌, ◌∙◌, sym}
use Rattle.std.specs.List.{zip}
use Rattle.std.proofs.lemmas.Result.{IfOk-weaker, on_ok_weaker}
use Rattle.cond_stats.specs.Lists.{list_of_value}
use Rattle.gathered_stats.specs.ShownCells.{shown_cells}
use Rattle.gathered_stats.specs.Rests.{rest_in}
use Rattle.gathered_stats.proofs.Asking.{keys_as_long_as_column}
use Rattle.gathered_stats.proofs.RestLists.{all_kept, rest_of_value}
use Rattle.gathered_stats.proofs.entry_table.EntryTable.list_of_cell.Goals as goal

pub list_of_value-requires : goal.list_of_value-requires
list_of_value-requires c = record { joined = keys_as_long_as_column c.args.self.now.pool.now (shown_cells c.args.self.now) c.requires.ready.cells c.args.column c.args.sorted.now c.args.keys.now c.requires.column c.requires.keys }

pub returns-clause-list : goal.returns-clause-list
returns-clause-list c =
    IfOk-weaker c.rest_of.result
    (λ list. list ≡ rest_in c.args.self.now c.args.keys.now c.args.column)
    (λ list. list ≡ list_of_value c.args.self.now.accuracy (zip c.args.sorted.now.cells c.args.keys.now) c.args.cell)
    (λ list made. rest_of_value c.args.self.now c.args.keys.now c.args.column c.args.sorted.now c.requires.column c.args.cell list
    (keys_as_long_as_column c.args.self.now.pool.now (shown_cells c.args.self.now) c.requires.ready.cells c.args.column c.args.sorted.now c.args.keys.now c.requires.column c.requires.keys)
    (sym c.in_ok-frequent.ensures ∙ c.if-frequent.false) made)
    c.rest_of.ensures.list

pub returns-clause-rests : goal.returns-clause-rests
returns-clause-rests c =
    on_ok_weaker c.rest_of.result
    (λ is. all_kept c.args.self.now c.args.keys.now c.args.column c.args.rests.now c.rest_of.new.rests is c.requires.rests)
    c.rest_of.ensures.rests
