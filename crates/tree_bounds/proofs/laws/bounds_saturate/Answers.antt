use Rattle.tree_bounds.proofs.Saturated.{saturated-composed, saturated-product_more, saturated-root_total, saturated-trees_more, saturated-min, within_saturated}
use Rattle.tree_bounds.proofs.laws.bounds_saturate.Goals as goal

pub returns-clause-entry : goal.returns-clause-entry
returns-clause-entry c = saturated-composed

pub returns-clause-class : goal.returns-clause-class
returns-clause-class c = saturated-product_more

pub returns-clause-root : goal.returns-clause-root
returns-clause-root c = saturated-root_total

pub returns-clause-trees : goal.returns-clause-trees
returns-clause-trees c = saturated-trees_more

pub returns-clause-turns : goal.returns-clause-turns
returns-clause-turns c = saturated-min

pub returns-clause-never_under : goal.returns-clause-never_under
returns-clause-never_under c = within_saturated
