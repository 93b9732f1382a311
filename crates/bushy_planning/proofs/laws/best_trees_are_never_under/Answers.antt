use Rattle.bushy_planning.proofs.NeverUnder.{never_under}
use Rattle.bushy_planning.proofs.ChosenTrees as stages
use Rattle.bushy_planning.proofs.laws.best_trees_are_never_under.Goals as goal

pub returns-clause-over_bounds : goal.returns-clause-over_bounds
returns-clause-over_bounds c = λ query tables lists sets plan levels bound is within best. never_under query tables lists sets plan levels bound is within.joins best within.scans

pub returns-clause-plan : goal.returns-clause-plan
returns-clause-plan c = stages.is_plan

pub returns-clause-scans : goal.returns-clause-scans
returns-clause-scans c = stages.scans_kept

pub returns-clause-nodes : goal.returns-clause-nodes
returns-clause-nodes c = λ query tables lists sets scans budget plan node levels bound some within_limit budget_within_limit made node_in_range.
    stages.nodes_fit query tables lists sets scans budget plan bound some within_limit made levels budget_within_limit node node_in_range

pub returns-clause-over_lists : goal.returns-clause-over_lists
returns-clause-over_lists c = λ query tables lists sets scans budget plan levels bound some within_limit budget_within_limit few_rows made.
    stages.over_lists query tables lists sets scans budget plan bound some within_limit made levels budget_within_limit few_rows
