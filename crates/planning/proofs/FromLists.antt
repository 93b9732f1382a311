-- Plans from any bounds of sets and of scans. If bounds of entries stand for lists of rows, no bound in the plan made from them is too low.
use Rattle.std.proofs.Common.{◌≡◌, ◌⊎◌, inl, inr, ℕ, ◌+◌, ◌<◌, ◌≤◌, ◌^◌, Bool, true, List, [], ◌∷◌, Ok, Result, min, length, take, get_or, refl, ap, sym, ◌∙◌, subst, arith}
use Rattle.std.specs.List.{AllByRecursion, filter}
use Rattle.std.proofs.lemmas.Bool.{and_parts, cases_Bool, cases_lt}
use Rattle.std.proofs.lemmas.List.{length-map}
use Rattle.limits.specs.Profile.{most_budget, most_entries, top_bound}
use Rattle.entry_sets.specs.Sets.{has_entry, set_of}
use Rattle.berge_tree.specs.declared.edges.Edge.{Edge}
use Rattle.plans.specs.declared.left_deep.Plan.{Plan}
use Rattle.plans.specs.LeftDeep.{IsPlan}
use Rattle.order_search.specs.Orders.{IsBest}
use Rattle.order_search.specs.declared.refusal.PlanError.{PlanError}
use Rattle.plan_answers.specs.PlanAnswer.{plan_answer}
use Rattle.plan_answers.specs.Promised.{IsPromised}
use Rattle.plan_answers.proofs.OneAnswer.{is_promised}
use Rattle.query_types.specs.declared.types.Query.{Query}
use Rattle.join_graph.specs.Conjuncts.{equalities_of}
use Rattle.join_graph.specs.Kept.{joins_within}
use Rattle.tree_bounds.specs.Scans.{scanned}
use Rattle.tree_bounds.specs.SetBounds.{SetHasLists, bound_of_set}
use Rattle.tree_bounds.specs.Tables.{Dominates, RowsFit, SetDominates}
use Rattle.tree_bounds.specs.TreeBounds.{EntryBounds, HasList}
use Rattle.bound_fold.proofs.TestedSets.{each_in_set, each_named_column}
use Rattle.set_bounds.specs.AllSets.{bounds_in_sets, in_every_set}
use Rattle.set_bounds.proofs.SetBySet.{bound_in_sets_at}
use Rattle.sql_meaning.specs.Answers.{conjuncts_of}
use Rattle.sql_meaning.specs.Levels.{level_over}
use Rattle.sql_meaning.specs.Tables.{Tables}
use Rattle.join_steps.specs.Lists.{list_at, list_levels, AreOfScans}
use Rattle.join_steps.specs.Plans.{IsPlanOf}
use Rattle.level_bounds.specs.Keys.{JoinsEqualKeys, Keys}
use Rattle.query_bounds.proofs.Holding.{pair_at}
use Rattle.entry_sets.proofs.Listing.{entry_below}
use Rattle.planning.specs.Standing.{BoundLevels, BoundLists, ColumnStands, EntriesStand, StandForLists, StandInSet}
use Rattle.planning.proofs.Levels.{level_at, level_within_cost, prefix_below, prefix_of}
use Rattle.planning.proofs.ListedLevels.{level_within}

-- ---- the plan over any bounds of sets and of scans

module _ (sets scans : List ℕ) (count budget : ℕ) (one_each : length scans ≡ count) (plan : Plan) (made : plan_answer sets scans budget ≡ Ok plan) where
  promised : IsPromised sets scans budget (Ok plan)
  promised = let P : Result Plan PlanError → Type 0 = IsPromised sets scans budget in subst P made (is_promised sets scans budget)

  pub is_plan_from : IsPlan count plan
  is_plan_from = subst (λ (n : ℕ). IsPlan n plan) one_each promised.plan

  pub is_best_from : IsBest sets count plan.order
  is_best_from = subst (λ (n : ℕ). IsBest sets n plan.order) one_each promised.best

  pub scan_kept : (entry : ℕ) → get_or plan.scans entry 0 ≡ get_or scans entry 0
  scan_kept entry = ap (λ (s : List ℕ). get_or s entry 0) promised.scans_kept

  pub level_within_budget : (k : ℕ) → get_or plan.levels k 0 ≤ budget
  level_within_budget k = omega (arith, ap (λ (s : List ℕ). get_or s k 0) promised.levels, level_within_cost sets plan.order k, promised.within)

  pub level_bound : (k : ℕ) → k < count → get_or plan.levels k 0 ≡ get_or sets (set_of (take (k + 1) plan.order)) 0
  level_bound k k_in_range = ap (λ (s : List ℕ). get_or s k 0) promised.levels ∙ level_at sets plan.order k (omega (arith, is_best_from.is_order.all))

module _ (query : Query) (tables : Tables) (lists : List (List ℕ)) (sets scans : List ℕ) (bound_sets : BoundLevels query tables lists sets) (bound : BoundLists query tables lists scans)
    (budget : ℕ) (plan : Plan) (few : length query.from ≤ most_entries) (small : budget ≤ most_budget) (made : plan_answer sets scans budget ≡ Ok plan) where
  abbrev n : ℕ
  n = length query.from

  level_fits : (k : ℕ) → k < length query.from → length (list_levels query tables lists plan.order (k + 1)) ≤ get_or plan.levels k 0
  level_fits k k_in_range =
      let best : IsBest sets n plan.order = is_best_from sets scans n budget bound.one_each plan made in
      let its_bound : get_or plan.levels k 0 ≡ get_or sets (set_of (take (k + 1) plan.order)) 0 = level_bound sets scans n budget bound.one_each plan made k k_in_range in
      let within : get_or plan.levels k 0 ≤ budget = level_within_budget sets scans n budget bound.one_each plan made k in
      elim (bound_sets (set_of (take (k + 1) plan.order)) (take (k + 1) plan.order) (prefix_below n (k + 1) plan.order best.is_order) (prefix_of n (k + 1) plan.order few best.is_order)) [
        | inl fits ↦ omega (arith, fits, its_bound)
        | inr top ↦ absurd (omega (arith, top, its_bound, within, small))
      ]

  pub plan_over_lists : IsPlanOf query tables lists plan
  plan_over_lists = record {
    for_each_entry = is_plan_from sets scans n budget bound.one_each plan made;
    scans = λ entry in_range. omega (arith, scan_kept sets scans n budget bound.one_each plan made entry, bound.fit entry in_range);
    levels = level_fits;
    within_tables = λ entry in_range. omega (arith, scan_kept sets scans n budget bound.one_each plan made entry, bound.within entry in_range);
    within_budget = λ k in_range. omega (arith, level_within_budget sets scans n budget bound.one_each plan made k, small);
  }

-- ---- the bounds of sets, from bounds of entries that stand for lists

capped : (rows bound capped_bound : ℕ) → rows ≤ bound → capped_bound ≡ min bound top_bound → (rows ≤ capped_bound) ⊎ (capped_bound ≡ top_bound)
capped rows bound capped_bound fits is = elim (cases_lt bound top_bound) [
  | inl below ↦ inl (omega arith)
  | inr above ↦ inr (omega arith)
]

filtered_all : (P : Edge → Type 0) (p : Edge → Bool) (es : List Edge) → AllByRecursion P es → AllByRecursion P (filter p es)
filtered_all P p [] all = tt
filtered_all P p (e ∷ es) all = elim (cases_Bool (p e)) [
  | inl stays ↦ rw stays (all.0, filtered_all P p es all.1)
  | inr goes ↦ rw goes (filtered_all P p es all.1)
]

pub levels_bound : (query : Query) (tables : Tables) (lists : List (List ℕ)) (key : Keys) (bounds : ℕ → EntryBounds) → StandForLists query tables lists key bounds
    → BoundLevels query tables lists (bounds_in_sets bounds (equalities_of query) (length query.from))
levels_bound query tables lists key bounds stand subset order fits o =
    let es : List Edge = equalities_of query in
    let n : ℕ = length query.from in
    let here : StandInSet query tables lists key (bounds subset) subset = stand.each_set subset fits in
    let fits_bound : length (level_over (conjuncts_of query tables) (list_at lists) order) ≤ bound_of_set (bounds subset) es subset =
    subst (λ (level : List (List ℕ)). length level ≤ bound_of_set (bounds subset) es subset) (sym (here.none_lost order o))
    (level_within query tables here.sufficient_lists here.are subset order o key (filtered_all (JoinsEqualKeys tables key) (joins_within subset) es stand.keys) (bounds subset) here.have_lists here.dominate) in
    capped (length (level_over (conjuncts_of query tables) (list_at lists) order)) (bound_of_set (bounds subset) es subset) (get_or (bounds_in_sets bounds es n) subset 0) fits_bound
    (bound_in_sets_at bounds es n subset (bounds_in_sets bounds es n) refl fits)

-- ---- bounds of entries that are the same in every set

both_below : (n subset : ℕ) (e : Edge) → subset < 2 ^ n → joins_within subset e ≡ true → (e.left.entry < n) × (e.right.entry < n)
both_below n subset e fits joins =
    let both = and_parts (has_entry subset e.left.entry) (has_entry subset e.right.entry) joins in
    (entry_below n subset e.left.entry fits both.0, entry_below n subset e.right.entry fits both.1)

module _ (query : Query) (tables : Tables) (lists : List (List ℕ)) (key : Keys) (bounds : EntryBounds) (are : AreOfScans query tables lists) (stand : EntriesStand query tables lists key bounds) where
  abbrev es : List Edge
  es = equalities_of query

  module _ (subset : ℕ) (fits : subset < 2 ^ length query.from) where
    both_stand : (k : ℕ) (d : Edge) → k < length (equalities_of query) → joins_within subset (get_or (equalities_of query) k d) ≡ true
        → ColumnStands lists key bounds (get_or (equalities_of query) k d).left.entry (get_or (equalities_of query) k d).left.column
        × ColumnStands lists key bounds (get_or (equalities_of query) k d).right.entry (get_or (equalities_of query) k d).right.column
    both_stand k d k_in_range joins =
        let columns = pair_at (λ entry column. entry < length query.from → ColumnStands lists key bounds entry column) es stand.columns k d k_in_range in
        let below = both_below (length query.from) subset (get_or es k d) fits joins in
        (columns.0 below.0, columns.1 below.1)

    pub have_lists : SetHasLists bounds (equalities_of query) subset
    have_lists = each_named_column (HasList bounds) subset es (λ k d k_in_range joins. let both = both_stand k d k_in_range joins in (both.0.has, both.1.has))

    dominates_at : (entry column : ℕ) → ColumnStands lists key bounds entry column → Dominates bounds (scanned (list_at lists) key) entry column
    dominates_at entry column stands = record { keys = stands.dominates; key_per_row = length-map (list_at lists entry) (key entry column) }

    pub dominate : SetDominates bounds (scanned (list_at lists) key) (equalities_of query) subset
    dominate = record {
      rows = each_in_set (RowsFit bounds (scanned (list_at lists) key)) subset (λ k k_in_range has. stand.rows k (entry_below (length query.from) subset k fits has));
      columns = each_named_column (Dominates bounds (scanned (list_at lists) key)) subset es (λ k d k_in_range joins.
          let both = both_stand k d k_in_range joins in
          let e : Edge = get_or es k d in
          (dominates_at e.left.entry e.left.column both.0, dominates_at e.right.entry e.right.column both.1));
    }

  pub stand_in_every_set : StandForLists query tables lists key (in_every_set bounds)
  stand_in_every_set = record {
    keys = stand.keys;
    each_set = λ subset fits. record { sufficient_lists = lists; are = are; none_lost = λ order o. refl; have_lists = have_lists subset fits; dominate = dominate subset fits };
  }
