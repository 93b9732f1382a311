use Rattle.std.proofs.Common.{◌≡◌, List, length, get_or, Some, ap, sym, ◌∙◌, subst, arith}
use Rattle.std.specs.Prelude.{IsSome}
use Rattle.predicate_bounds.specs.declared.columns.ColumnSteps.{ColumnSteps}
use Rattle.predicate_bounds.specs.StatsLists.{column_steps, columns_of}
use Rattle.key_bounds.proofs.FirstLists.{all_added, as_many_rows, column_there, columns_read, first_there, first_is_added, not_there, one_added}
use Rattle.key_bounds.proofs.carrying.first_lists.Goals as goal

pub row_bound-requires-clause-entry : goal.row_bound-requires-clause-entry
row_bound-requires-clause-entry c = c.requires.there

pub row_bound-requires-clause-known : goal.row_bound-requires-clause-known
row_bound-requires-clause-known c = first_there c.args.stats.now c.requires

pub loop-joined-init : goal.loop-joined-init
loop-joined-init c =
    first_is_added c.args.stats.now c.requires c.args.entry c.set_rows.new.self (c.in_ok-set_rows.ensures.set ∙ ap Some c.in_ok-rows.ensures.exact)
    (λ column. c.in_ok-set_rows.ensures.lists c.args.entry column ∙ c.new-made.ensures.lists c.args.entry column)

pub bound_list-requires-clause-known : goal.bound_list-requires-clause-known
bound_list-requires-clause-known c =
    let is : c.as_slice-joined-items.result.now ≡ columns_of c.args.stats.now 0 = columns_read c.args.stats.now c.requires c.get-first.result.now c.as_slice-joined-items.result.now c.get-first.ensures c.as_slice-joined-items.ensures in
    let at : c.joined-item.result ≡ get_or (columns_of c.args.stats.now 0) c.loop-joined.joined-index c.joined-item.result =
    c.joined-item.is ∙ ap (λ (s : List ColumnSteps). get_or s c.loop-joined.joined-index c.joined-item.result) is in
    subst (λ (g : ColumnSteps). IsSome (column_steps c.args.stats.now 0 g.column)) (sym at)
    (column_there c.args.stats.now c.requires c.loop-joined.joined-index c.joined-item.result (omega (arith, c.loop-joined-test.true, ap (λ (s : List ColumnSteps). length s) is)))

pub add-requires-clause-total : goal.add-requires-clause-total
add-requires-clause-total c =
    let is : c.as_slice-joined-items.result.now ≡ columns_of c.args.stats.now 0 = columns_read c.args.stats.now c.requires c.get-first.result.now c.as_slice-joined-items.result.now c.get-first.ensures c.as_slice-joined-items.ensures in
    as_many_rows c.args.stats.now c.requires c.args.entry c.loop-joined.joined-index c.joined-item.result c.in_ok-list.list c.loop-joined.made
    (omega (arith, c.loop-joined-test.true, ap (λ (s : List ColumnSteps). length s) is))
    (c.joined-item.is ∙ ap (λ (s : List ColumnSteps). get_or s c.loop-joined.joined-index c.joined-item.result) is) c.loop-joined.invariant c.in_ok-list.ensures.exact

pub add-requires-clause-no_list : goal.add-requires-clause-no_list
add-requires-clause-no_list c =
    let is : c.as_slice-joined-items.result.now ≡ columns_of c.args.stats.now 0 = columns_read c.args.stats.now c.requires c.get-first.result.now c.as_slice-joined-items.result.now c.get-first.ensures c.as_slice-joined-items.ensures in
    not_there c.args.stats.now c.requires c.args.entry c.loop-joined.joined-index c.joined-item.result c.loop-joined.made
    (omega (arith, c.loop-joined-test.true, ap (λ (s : List ColumnSteps). length s) is))
    (c.joined-item.is ∙ ap (λ (s : List ColumnSteps). get_or s c.loop-joined.joined-index c.joined-item.result) is) c.loop-joined.invariant

pub loop-joined-preserved : goal.loop-joined-preserved
loop-joined-preserved c =
    let is : c.as_slice-joined-items.result.now ≡ columns_of c.args.stats.now 0 = columns_read c.args.stats.now c.requires c.get-first.result.now c.as_slice-joined-items.result.now c.get-first.ensures c.as_slice-joined-items.ensures in
    one_added c.args.stats.now c.requires c.args.entry c.loop-joined.joined-index c.joined-item.result c.in_ok-list.list c.loop-joined.made c.add.new.self
    (omega (arith, c.loop-joined-test.true, ap (λ (s : List ColumnSteps). length s) is))
    (c.joined-item.is ∙ ap (λ (s : List ColumnSteps). get_or s c.loop-joined.joined-index c.joined-item.result) is) c.loop-joined.invariant c.in_ok-list.ensures.exact
    c.in_ok-add.ensures.set c.in_ok-add.ensures.others c.in_ok-add.ensures.rows

pub returns-clause-rows : goal.returns-clause-rows
returns-clause-rows c = c.loop-joined.invariant.rows

pub returns-clause-lists : goal.returns-clause-lists
returns-clause-lists c =
    let is : c.as_slice-joined-items.result.now ≡ columns_of c.args.stats.now 0 = columns_read c.args.stats.now c.requires c.get-first.result.now c.as_slice-joined-items.result.now c.get-first.ensures c.as_slice-joined-items.ensures in
    all_added c.args.stats.now c.requires c.args.entry c.loop-joined.joined-index c.loop-joined.made (omega (arith, c.loop-joined-test.false, ap (λ (s : List ColumnSteps). length s) is)) c.loop-joined.invariant
