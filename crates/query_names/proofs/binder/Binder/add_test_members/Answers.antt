use Rattle.std.proofs.Common.{refl, sym, ◌∙◌}
use Rattle.query_names.proofs.Meanings.{range_members, whole_member, if_ok_map}
use Rattle.query_names.proofs.CheckSteps.{checked_of_equal}
use Rattle.query_names.proofs.binder.Binder.add_test_members.Goals as goal

pub returns-then-is_range-clause-ok : goal.returns-then-is_range-clause-ok
returns-then-is_range-clause-ok c =
    if_ok_map _ _ c.add_comparisons.result c.add_comparisons.ensures.ok (λ _ l.
    checked_of_equal refl refl refl (λ _. range_members c.args.self.now c.args.visible.now.scope c.args.test.now (sym c.is_range.ensures ∙ c.if-is_range.true)) l)

pub returns-else-is_range-clause-ok : goal.returns-else-is_range-clause-ok
returns-else-is_range-clause-ok c =
    if_ok_map _ _ c.add_test.result c.add_test.ensures.ok (λ _ l.
    checked_of_equal refl refl refl (λ _. whole_member c.args.self.now c.args.visible.now.scope c.args.test.now (sym c.is_range.ensures ∙ c.if-is_range.false)) l)
