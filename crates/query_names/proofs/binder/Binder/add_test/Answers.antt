use Rattle.std.proofs.Common.{ap, ◌∙◌, [], ◌∷◌, ◌++◌}
use Rattle.query_names.specs.Checking.{test_condition}
use Rattle.query_names.proofs.Meanings.{whole_is}
use Rattle.query_names.proofs.CheckSteps.{checked_wrapped}
use Rattle.query_names.proofs.binder.Binder.add_test.Goals as goal

pub returns-in_ok-push-clause-ok : goal.returns-in_ok-push-clause-ok
returns-in_ok-push-clause-ok c =
    checked_wrapped (test_condition c.args.test.now) (whole_is c.args.self.now c.args.visible.now.scope c.args.test.now) c.new-parts.ensures c.in_ok-add_comparisons.ensures.ok
    (λ _ _. c.in_ok-push.ensures.ok ∙ ap (λ one. c.args.found.now ++ one ∷ []) c.in_ok-test_condition.ensures)
