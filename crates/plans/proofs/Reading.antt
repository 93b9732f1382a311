-- An order is read from its tree, at once and level by level.
use Rattle.std.proofs.Common.{◌≡◌, ℕ, zero, suc, ◌+◌, ◌-◌, ◌<◌, ◌≤◌, List, [], ◌∷◌, length, map, get_or, refl, ap, sym, ◌∙◌, subst, arith}
use Rattle.std.proofs.lemmas.List.{get_or-map, length-map}
use Rattle.std.proofs.lemmas.List.Elements.{All-from_recursion}
use Rattle.plans.specs.LeftDeep.{IsOrder, IsPlan}
use Rattle.plans.specs.declared.left_deep.Plan.{Plan}
use Rattle.plans.specs.declared.bushy.BushyPlan.{BushyPlan}
use Rattle.plans.specs.declared.bushy.Join.{Join}
use Rattle.plans.specs.Orders.{cost_of, first_entry, joins_along, joins_of_order, order_of_tree, tree_of_order, IsOrderTree}
use Rattle.plans.specs.TreePlans.{IsTreePlan}
use Rattle.plans.proofs.OrderTrees.{order_is_tree}

rights : List Join → List ℕ
rights joins = map (λ join. join.right) joins

bounds_of : List Join → List ℕ
bounds_of joins = map (λ join. join.bound) joins

along_rights : (left own : ℕ) (entries bounds : List ℕ) → length bounds ≡ length entries → rights (joins_along left own entries bounds) ≡ entries
unfolding rights
along_rights left own [] bounds lengths = refl
along_rights left own (e ∷ entries) [] lengths = absurd (omega arith)
along_rights left own (e ∷ entries) (b ∷ bounds) lengths = ap (λ (s : List ℕ). e ∷ s) (along_rights own (own + 1) entries bounds (omega arith))

along_bounds : (left own : ℕ) (entries bounds : List ℕ) → length bounds ≡ length entries → bounds_of (joins_along left own entries bounds) ≡ bounds
unfolding bounds_of
along_bounds left own [] [] lengths = refl
along_bounds left own [] (b ∷ bounds) lengths = absurd (omega arith)
along_bounds left own (e ∷ entries) [] lengths = absurd (omega arith)
along_bounds left own (e ∷ entries) (b ∷ bounds) lengths = ap (λ (s : List ℕ). b ∷ s) (along_bounds own (own + 1) entries bounds (omega arith))

-- ---- the entries and the bounds of the joins of an order

first_read : (n m : ℕ) (order levels : List ℕ) → IsOrder n order → length levels ≡ length order → 1 ≤ n → first_entry (joins_of_order m order levels) ≡ get_or order 0 0
first_read n m [] levels is lengths some = absurd (omega (arith, is.all))
first_read n m (first ∷ others) [] is lengths some = absurd (omega arith)
first_read n m (first ∷ []) (l ∷ levels) is lengths some = omega (arith, is.all, is.entries.0)
first_read n m (first ∷ second ∷ others) (l ∷ []) is lengths some = absurd (omega arith)
first_read n m (first ∷ second ∷ others) (l ∷ b ∷ levels) is lengths some = refl

rights_read : (m : ℕ) (order levels : List ℕ) → length levels ≡ length order → 1 ≤ length order → get_or order 0 0 ∷ rights (joins_of_order m order levels) ≡ order
rights_read m [] levels lengths some = absurd (omega arith)
rights_read m (first ∷ others) [] lengths some = absurd (omega arith)
rights_read m (first ∷ others) (l ∷ levels) lengths some = ap (λ (s : List ℕ). first ∷ s) (along_rights first m others levels (omega arith))

bounds_read : (m : ℕ) (order levels : List ℕ) → length levels ≡ length order → 1 ≤ length order → get_or levels 0 0 ∷ bounds_of (joins_of_order m order levels) ≡ levels
bounds_read m [] levels lengths some = absurd (omega arith)
bounds_read m (first ∷ others) [] lengths some = absurd (omega arith)
bounds_read m (first ∷ others) (l ∷ levels) lengths some = ap (λ (s : List ℕ). l ∷ s) (along_bounds first m others levels (omega arith))

-- the joins don't depend on the bound of level 1
first_unused : (m l : ℕ) (order levels : List ℕ) → length levels ≡ length order → 1 ≤ length order → joins_of_order m order (l ∷ bounds_of (joins_of_order m order levels)) ≡ joins_of_order m order levels
first_unused m l [] levels lengths some = absurd (omega arith)
first_unused m l (first ∷ others) [] lengths some = absurd (omega arith)
first_unused m l (first ∷ others) (level ∷ levels) lengths some = ap (joins_along first m others) (along_bounds first m others levels (omega arith))

-- ---- the order of a tree

module _ (n : ℕ) (plan : Plan) (some : 1 ≤ n) (is : IsPlan n plan) where
  abbrev joins : List Join
  joins = joins_of_order (length plan.scans) plan.order plan.levels

  lengths : length plan.levels ≡ length plan.order
  lengths = is.levels ∙ sym is.order.all

  abbrev with_first : ℕ → Plan
  with_first level = record { order = plan.order; scans = plan.scans; levels = level ∷ bounds_of joins }

  order_read : first_entry joins ∷ rights joins ≡ plan.order
  order_read =
      ap (λ (first : ℕ). first ∷ rights joins) (first_read n (length plan.scans) plan.order plan.levels is.order lengths some)
      ∙ rights_read (length plan.scans) plan.order plan.levels lengths (omega (arith, is.order.all, some))

  read_as : order_of_tree (tree_of_order plan) ≡ with_first (get_or plan.scans (get_or plan.order 0 0) 0)
  unfolding rights bounds_of
  read_as =
      ap (λ (order : List ℕ). record { order = order; scans = plan.scans; levels = get_or plan.scans (first_entry joins) 0 ∷ bounds_of joins }) order_read
      ∙ ap (λ (first : ℕ). with_first (get_or plan.scans first 0)) (first_read n (length plan.scans) plan.order plan.levels is.order lengths some)

  -- an order is read as it was, if level 1 has the bound of its scan
  pub order_is_read : get_or plan.levels 0 0 ≡ get_or plan.scans (get_or plan.order 0 0) 0 → order_of_tree (tree_of_order plan) ≡ plan
  order_is_read level =
      read_as ∙ ap with_first (sym level)
      ∙ ap (λ (levels : List ℕ). record { order = plan.order; scans = plan.scans; levels = levels }) (bounds_read (length plan.scans) plan.order plan.levels lengths (omega (arith, is.order.all, some)))

  -- the tree is that of the order that is read from it
  pub tree_is_kept : IsOrderTree n (tree_of_order plan)
  tree_is_kept =
      let first : ℕ = get_or plan.scans (get_or plan.order 0 0) 0 in
      let same : joins_of_order (length plan.scans) plan.order (first ∷ bounds_of joins) ≡ joins = first_unused (length plan.scans) first plan.order plan.levels lengths (omega (arith, is.order.all, some)) in
      record {
        order = subst (IsPlan n) (sym read_as) (record {
          order = is.order;
          scans = is.scans;
          levels = ap (λ (s : List ℕ). length s) (bounds_read (length plan.scans) plan.order plan.levels lengths (omega (arith, is.order.all, some))) ∙ is.levels;
        });
        its_tree = sym (ap tree_of_order read_as ∙ ap (λ (s : List Join). record { joins = s; scans = plan.scans; cost = cost_of plan.scans s }) same);
      }

pub order_tree_is_plan : (n : ℕ) (tree : BushyPlan) → 1 ≤ n → n ≤ 12 → IsOrderTree n tree → IsTreePlan n tree
order_tree_is_plan n tree some few is = subst (IsTreePlan n) (sym is.its_tree) (order_is_tree n (order_of_tree tree) some few is.order)

-- ---- one level of the order of a tree

pub entry_read : (tree : BushyPlan) (i : ℕ) (d : Join) → 1 ≤ i → i ≤ length tree.joins → (get_or tree.joins (i - 1) d).right ≡ get_or (order_of_tree tree).order i 0
entry_read tree zero d some within = absurd (omega arith)
entry_read tree (suc i) d some within =
    let place : suc i - 1 ≡ i = omega arith in
    ap (λ (m : ℕ). (get_or tree.joins m d).right) place ∙ sym (get_or-map (λ (join : Join). join.right) tree.joins i d 0 (omega arith))

pub bound_read : (tree : BushyPlan) (i : ℕ) (d : Join) → 1 ≤ i → i ≤ length tree.joins → (get_or tree.joins (i - 1) d).bound ≡ get_or (order_of_tree tree).levels i 0
bound_read tree zero d some within = absurd (omega arith)
bound_read tree (suc i) d some within =
    let place : suc i - 1 ≡ i = omega arith in
    ap (λ (m : ℕ). (get_or tree.joins m d).bound) place ∙ sym (get_or-map (λ (join : Join). join.bound) tree.joins i d 0 (omega arith))

pub joins_are : (n : ℕ) (tree : BushyPlan) → IsOrderTree n tree → length tree.joins + 1 ≡ n
joins_are n tree is = omega (arith, is.order.order.all, length-map tree.joins (λ (join : Join). join.right))

pub entry_low : (n : ℕ) (tree : BushyPlan) (i : ℕ) → IsOrderTree n tree → i < n → get_or (order_of_tree tree).order i 0 < n
entry_low n tree i is low = All-from_recursion (λ entry. entry < n) (order_of_tree tree).order is.order.order.entries i 0 (omega (arith, low, is.order.order.all))
