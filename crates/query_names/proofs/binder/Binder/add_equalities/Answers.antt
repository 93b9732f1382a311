use Rattle.query_names.proofs.BoundFacts.{equality_more}
use Rattle.query_names.proofs.CheckSteps.{nothing_checked}
use Rattle.query_names.proofs.binder.Binder.add_equalities.Goals as goal

pub all-init : goal.all-init
all-init c = nothing_checked c.args.held.now c.args.found.now

pub all-preserved : goal.all-preserved
all-preserved c = equality_more c.args.left.now c.args.values.now _ c.all-test.true c.all.invariant c.in_ok-other.ensures c.in_ok-compare.ensures
