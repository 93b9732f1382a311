use Rattle.std.proofs.Common.{◌≡◌, ℕ, List, [], ◌∷◌, ◌++◌, ap, ◌∙◌}
use Rattle.plans.specs.declared.bushy.Join.{Join}
use Rattle.memory_counts.proofs.SmallTree.{plan_is_of_two_entries, bounds_of_plan_fit_buffers, join}
use Rattle.memory_counts.proofs.tree_of_two.Goals as goal

pub returns-clause-plan : goal.returns-clause-plan
returns-clause-plan c =
    let joins : c.push.new.self ≡ join ∷ [] = c.in_ok-push.ensures.ok ∙ ap (λ (s : List Join). s ++ join ∷ []) c.new-joins.ensures in
    let first : c.push-2.new.self ≡ 6 ∷ [] = c.in_ok-push-2.ensures.ok ∙ ap (λ (s : List ℕ). s ++ 6 ∷ []) c.new-scans.ensures in
    plan_is_of_two_entries _ _ joins (c.in_ok-push-3.ensures.ok ∙ ap (λ (s : List ℕ). s ++ 5 ∷ []) first)

pub returns-clause-small : goal.returns-clause-small
returns-clause-small c =
    let joins : c.push.new.self ≡ join ∷ [] = c.in_ok-push.ensures.ok ∙ ap (λ (s : List Join). s ++ join ∷ []) c.new-joins.ensures in
    let first : c.push-2.new.self ≡ 6 ∷ [] = c.in_ok-push-2.ensures.ok ∙ ap (λ (s : List ℕ). s ++ 6 ∷ []) c.new-scans.ensures in
    bounds_of_plan_fit_buffers _ _ joins (c.in_ok-push-3.ensures.ok ∙ ap (λ (s : List ℕ). s ++ 5 ∷ []) first)
