use Rattle.std.proofs.Common.{◌≡◌, Some, ap, sym, ◌∙◌}
use Rattle.predicate_bounds.specs.StatsLists.{column_steps}
use Rattle.predicate_bounds.proofs.StatsListFacts.{found_here, list_answer, list_here, list_from_steps_dominates}
use Rattle.predicate_bounds.proofs.columns.QueryStats.bound_list.Goals as goal

pub returns-then-joined-column-clause-exact : goal.returns-then-joined-column-clause-exact
returns-then-joined-column-clause-exact c =
    let here : column_steps c.args.self.now c.args.from c.args.column ≡ Some c.as_slice.result.now =
    c.loop-joined.invariant ∙ found_here c.columns-joined-items.result.now c.loop-joined.joined-index c.args.column c.joined-item.result c.loop-joined-test.true c.joined-item.is c.if-joined-column.true
    ∙ ap Some (sym c.as_slice.ensures) in
    list_here c.args.self.now c.args.from c.args.column c.as_slice.result.now c.run_steps.result here c.run_steps.ensures

pub returns-then-joined-column-clause-list : goal.returns-then-joined-column-clause-list
returns-then-joined-column-clause-list c = λ query lists tells.
    let here : column_steps c.args.self.now c.args.from c.args.column ≡ Some c.as_slice.result.now =
    c.loop-joined.invariant ∙ found_here c.columns-joined-items.result.now c.loop-joined.joined-index c.args.column c.joined-item.result c.loop-joined-test.true c.joined-item.is c.if-joined-column.true
    ∙ ap Some (sym c.as_slice.ensures) in
    list_answer query c.args.self.now c.args.from c.args.column lists c.as_slice.result.now c.run_steps.result here tells c.run_steps.ensures

pub returns-then-joined-column-clause-never_under : goal.returns-then-joined-column-clause-never_under
returns-then-joined-column-clause-never_under c = λ query lists tables key tells stands.
    let here : column_steps c.args.self.now c.args.from c.args.column ≡ Some c.as_slice.result.now =
    c.loop-joined.invariant ∙ found_here c.columns-joined-items.result.now c.loop-joined.joined-index c.args.column c.joined-item.result c.loop-joined-test.true c.joined-item.is c.if-joined-column.true
    ∙ ap Some (sym c.as_slice.ensures) in
    list_from_steps_dominates query c.args.from lists tables key c.run_steps.result stands
    (list_answer query c.args.self.now c.args.from c.args.column lists c.as_slice.result.now c.run_steps.result here tells c.run_steps.ensures)
