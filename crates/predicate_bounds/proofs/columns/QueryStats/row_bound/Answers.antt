use Rattle.std.proofs.Common.{◌≡◌, ℕ, ◌-◌, ◌^◌, min, List, Some, ap, sum, sym, ◌∙◌}
use Rattle.std.specs.List.{list_all}
use Rattle.predicate_bounds.specs.declared.columns.ColumnSteps.{ColumnSteps}
use Rattle.predicate_bounds.specs.ListRuns.{is_small}
use Rattle.predicate_bounds.specs.StatsLists.{first_steps, list_on_top}
use Rattle.predicate_bounds.proofs.StatsListFacts.{first_here, rows_from_steps, counted_rows, row_bound_at_least_scan}
use Rattle.predicate_bounds.proofs.columns.QueryStats.row_bound.Goals as goal

pub returns-clause-exact : goal.returns-clause-exact
returns-clause-exact c =
    let these : c.as_slice.result.now ≡ c.index-columns-0.result.steps = c.as_slice.ensures ∙ ap (λ (one : ColumnSteps). one.steps) (sym c.index-columns-0.is) in
    let here : first_steps c.args.self.now c.args.from ≡ Some c.as_slice.result.now =
    first_here c.args.self.now c.args.from c.columns-columns.result.now c.index-columns-0.result c.as_slice.result.now c.columns-columns.ensures c.requires.known c.index-columns-0.is these in
    c.rows_of.ensures ∙ ap (λ (list : List ℕ). min (sum list) (2 ^ 64 - 1)) (c.in_ok-list.ensures ∙ sym (ap list_on_top here))

pub returns-clause-rows : goal.returns-clause-rows
returns-clause-rows c = λ query lists counts tells sums.
    let these : c.as_slice.result.now ≡ c.index-columns-0.result.steps = c.as_slice.ensures ∙ ap (λ (one : ColumnSteps). one.steps) (sym c.index-columns-0.is) in
    let here : first_steps c.args.self.now c.args.from ≡ Some c.as_slice.result.now =
    first_here c.args.self.now c.args.from c.columns-columns.result.now c.index-columns-0.result c.as_slice.result.now c.columns-columns.ensures c.requires.known c.index-columns-0.is these in
    counted_rows query c.args.from lists counts c.rows_of.result sums
    (rows_from_steps query c.args.self.now c.args.from lists c.as_slice.result.now c.in_ok-list.list c.rows_of.result here tells
    (ap (list_all is_small) these ∙ c.index-columns-0.result.small) c.in_ok-list.ensures c.rows_of.ensures)

pub returns-clause-never_under : goal.returns-clause-never_under
returns-clause-never_under c = λ query lists tables key tells stands.
    let these : c.as_slice.result.now ≡ c.index-columns-0.result.steps = c.as_slice.ensures ∙ ap (λ (one : ColumnSteps). one.steps) (sym c.index-columns-0.is) in
    let here : first_steps c.args.self.now c.args.from ≡ Some c.as_slice.result.now =
    first_here c.args.self.now c.args.from c.columns-columns.result.now c.index-columns-0.result c.as_slice.result.now c.columns-columns.ensures c.requires.known c.index-columns-0.is these in
    row_bound_at_least_scan query c.args.from lists tables key c.rows_of.result stands
    (rows_from_steps query c.args.self.now c.args.from lists c.as_slice.result.now c.in_ok-list.list c.rows_of.result here tells
    (ap (list_all is_small) these ∙ c.index-columns-0.result.small) c.in_ok-list.ensures c.rows_of.ensures)
