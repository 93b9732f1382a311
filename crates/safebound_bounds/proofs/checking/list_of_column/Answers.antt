use Rattle.std.proofs.Common.{sym, ◌∙◌, arith}
use Rattle.safebound_bounds.specs.Arguments.{is_list_of_column, default_list}
use Rattle.safebound_bounds.proofs.Finding.{found_here, none_left, passed_one}
use Rattle.safebound_bounds.proofs.checking.list_of_column.Goals as goal

pub loop-list-preserved : goal.loop-list-preserved
loop-list-preserved c =
    passed_one (is_list_of_column c.args.place.entry c.args.place.column) c.args.lists.now c.loop-list.list-index default_list c.loop-list-test.true (sym c.is_list_of_column.ensures ∙ c.if-is_list_of_column.false)
    ∙ c.loop-list.invariant

pub returns-then-is_list_of_column : goal.returns-then-is_list_of_column
returns-then-is_list_of_column c =
    sym (found_here (is_list_of_column c.args.place.entry c.args.place.column) c.args.lists.now c.loop-list.list-index default_list c.loop-list-test.true (sym c.is_list_of_column.ensures ∙ c.if-is_list_of_column.true))
    ∙ c.loop-list.invariant

pub returns : goal.returns
returns c = sym (none_left (is_list_of_column c.args.place.entry c.args.place.column) c.args.lists.now c.loop-list.list-index (omega arith)) ∙ c.loop-list.invariant
