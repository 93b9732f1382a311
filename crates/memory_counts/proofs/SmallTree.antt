-- The join tree of two entries satisfies the rules of a tree plan, and its bounds are within the limit of rows.
use Rattle.std.proofs.Common.{◌≡◌, ℕ, zero, suc, ◌-◌, ◌*◌, ◌<◌, ◌==◌, List, [], ◌∷◌, length, refl, sym, subst, arith}
use Rattle.std.specs.List.{count_by}
use Rattle.plans.specs.declared.bushy.BushyPlan.{BushyPlan}
use Rattle.plans.specs.declared.bushy.Join.{Join}
use Rattle.plans.specs.TreePlans.{joined_nodes, IsTreePlan}
use Rattle.tree_rows.specs.Rooms.{BoundsFitBuffers}
use Rattle.tree_rows.proofs.RoomFacts.{within_fits}

abbrev pub join : Join
join = record { left = 1; right = 0; bound = 12 }

abbrev pub plan_of : List Join → List ℕ → BushyPlan
plan_of joins scans = record { joins = joins; scans = scans; cost = 12 }

abbrev pub small_plan : BushyPlan
small_plan = plan_of (join ∷ []) (6 ∷ 5 ∷ [])

each_once : (node : ℕ) → node < 2 * 2 - 2 → count_by (λ other. other == node) (joined_nodes (join ∷ [])) ≡ 1
each_once zero low = refl
each_once (suc zero) low = refl
each_once (suc (suc node)) low = absurd (omega (arith, low))

is_plan : IsTreePlan 2 small_plan
is_plan = record { few = omega arith; scans = refl; joins = refl; behind = (omega arith, omega arith, tt); once = each_once }

small_bounds_fit_buffers : BoundsFitBuffers small_plan
small_bounds_fit_buffers = within_fits small_plan (record { scans = (omega arith, (omega arith, tt)); joins = (omega arith, tt) })

module _ (joins : List Join) (scans : List ℕ) (joined : joins ≡ join ∷ []) (scanned : scans ≡ 6 ∷ 5 ∷ []) where
  pub plan_is_of_two_entries : IsTreePlan (length scans) (plan_of joins scans)
  plan_is_of_two_entries = subst (λ (js : List Join). IsTreePlan (length scans) (plan_of js scans)) (sym joined)
      (subst (λ (s : List ℕ). IsTreePlan (length s) (plan_of (join ∷ []) s)) (sym scanned) is_plan)

  pub bounds_of_plan_fit_buffers : BoundsFitBuffers (plan_of joins scans)
  bounds_of_plan_fit_buffers = subst (λ (js : List Join). BoundsFitBuffers (plan_of js scans)) (sym joined) (subst (λ (s : List ℕ). BoundsFitBuffers (plan_of (join ∷ []) s)) (sym scanned) small_bounds_fit_buffers)
