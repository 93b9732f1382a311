use Rattle.std.proofs.Common.{length, refl}
use Rattle.join_graph.specs.Conjuncts.{equalities_of}
use Rattle.plan_answers.proofs.OneAnswer.{never_out_of_memory}
use Rattle.set_bounds.specs.AllSets.{bounds_in_sets}
use Rattle.query_bounds.specs.Bounds.{scan_bounds}
use Rattle.query_bounds.proofs.Levels.{scan_within}
use Rattle.planning.proofs.FromLists.{levels_bound, plan_over_lists, stand_in_every_set}
use Rattle.planning.proofs.PlanFacts.{is_plan_of}
use Rattle.planning.proofs.ScanBounds.{stand_for_scans}
use Rattle.planning.proofs.laws.plans_from_lists_are_never_under.Goals as goal

pub returns-clause-sets : goal.returns-clause-sets
returns-clause-sets c = λ query tables lists key bounds stand. levels_bound query tables lists key bounds stand

pub returns-clause-everywhere : goal.returns-clause-everywhere
returns-clause-everywhere c = λ query tables lists key bounds are stand. stand_in_every_set query tables lists key bounds are stand

pub returns-clause-statistics : goal.returns-clause-statistics
returns-clause-statistics c = λ query known tables key stands have keys. stand_for_scans query known tables key stands have keys

pub returns-clause-of_scans : goal.returns-clause-of_scans
returns-clause-of_scans c = λ query known tables key entry stands entry_in_range. scan_within query known tables key entry (scan_bounds query known) refl stands entry_in_range

pub returns-clause-over_bounds : goal.returns-clause-over_bounds
returns-clause-over_bounds c = λ query tables lists sets scans budget plan bound_sets bound within_limit budget_within_limit made.
    plan_over_lists query tables lists sets scans bound_sets bound budget plan within_limit budget_within_limit made

pub returns-clause-plan : goal.returns-clause-plan
returns-clause-plan c = λ query tables lists key bounds scans budget plan stand bound within_limit budget_within_limit made.
    plan_over_lists query tables lists (bounds_in_sets bounds (equalities_of query) (length query.from)) scans (levels_bound query tables lists key bounds stand) bound budget plan within_limit budget_within_limit made

pub returns-clause-no_memory : goal.returns-clause-no_memory
returns-clause-no_memory c = λ bounds scans es count budget. never_out_of_memory (bounds_in_sets bounds es count) scans budget

pub returns-clause-over_scans : goal.returns-clause-over_scans
returns-clause-over_scans c = λ query tables accuracy budget plan within_limit budget_within_limit made. is_plan_of query tables accuracy budget plan made within_limit budget_within_limit
