use Rattle.std.proofs.Common.{List, ap, sym, ◌∙◌}
use Rattle.gathered_stats.specs.declared.rests.RestList.{RestList}
use Rattle.gathered_stats.specs.ShownCells.{shown_cells}
use Rattle.gathered_stats.specs.Rests.{is_kept}
use Rattle.gathered_stats.proofs.Asking.{keys_as_long_as_column}
use Rattle.gathered_stats.proofs.RestLists.{one_kept}
use Rattle.gathered_stats.proofs.entry_table.EntryTable.rest_of.Goals as goal

pub rest-requires : goal.rest-requires
rest-requires c = record { joined = keys_as_long_as_column c.args.self.now.pool.now (shown_cells c.args.self.now) c.requires.ready.cells c.args.column c.args.sorted.now c.args.keys.now c.requires.column c.requires.keys }

pub returns-clause-rests : goal.returns-clause-rests
returns-clause-rests c =
    one_kept c.args.self.now c.args.keys.now c.args.column c.args.sorted.now c.requires.column c.in_ok-list.list c.args.rests.now c.push.new.self
    c.in_ok-list.ensures (ap (λ (s : List RestList). is_kept s c.args.column) (sym c.as_slice.ensures) ∙ sym c.in_default.ensures.there) c.in_ok-push.ensures.ok
