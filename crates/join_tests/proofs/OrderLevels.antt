-- The levels of an order are nodes of its tree. The order T, R, S is a plan of the triangle over its whole scans.
use Rattle.std.proofs.Common.{◌≡◌, inl, inr, ℕ, zero, suc, ◌+◌, ◌*◌, ◌<◌, ◌≤◌, Bool, List, [], ◌∷◌, length, take, get_or, refl, ap, sym, ◌∙◌, subst, arith}
use Rattle.std.specs.List.{filter, range_with_len, AllByRecursion, IsDistinct}
use Rattle.std.proofs.lemmas.Bool.{cases_eq}
use Rattle.std.proofs.lemmas.List.FromFn.{length-range_with_len}
use Rattle.std.proofs.lemmas.List.Sums.{count_by-le-length, length-filter}
use Rattle.limits.specs.Profile.{most_budget}
use Rattle.plans.specs.LeftDeep.{IsOrder, IsPlan}
use Rattle.plans.specs.declared.left_deep.Plan.{Plan}
use Rattle.sql_meaning.specs.Answers.{conjuncts_of}
use Rattle.sql_meaning.specs.Choices.{choices_of}
use Rattle.csv_tables.specs.declared.types.Database.{Database}
use Rattle.query_types.specs.declared.types.Query.{Query}
use Rattle.sql_meaning.specs.Databases.{IsDatabaseOf}
use Rattle.sql_meaning.specs.Examples.{triangle, triangle_tables}
use Rattle.sql_meaning.specs.Levels.{all_hold, passes_own, row_in}
use Rattle.sql_meaning.specs.Tables.{Tables, row_counts, tables_of}
use Rattle.sql_meaning.proofs.Worked.{triangle_fits}
use Rattle.join_steps.specs.Lists.{list_levels, listed_row_count, scans_of}
use Rattle.join_steps.specs.Plans.{IsPlanOf}
use Rattle.join_steps.proofs.WholeScans.{levels_of_scans, scans_of_at}
use Rattle.plans.specs.Orders.{level_node, tree_of_order}
use Rattle.plans.proofs.Building.{level_later}
use Rattle.plans.proofs.OrderTrees.{order_is_tree}
use Rattle.tree_rows.specs.Nodes.{node_at, Node}
use Rattle.tree_rows.specs.Trees.{entries_at, node_count}
use Rattle.tree_rows.proofs.OrderNodes.{first_there, level_entries}
use Rattle.join_tests.specs.Examples.{t_r_s, HasLevels}

-- ---- the nodes of the levels

module _ (n : ℕ) (plan : Plan) (some : 1 ≤ n) (few : n ≤ 12) (is : IsPlan n plan) where
  many : node_count (tree_of_order plan) + 1 ≡ 2 * n
  many = let tree = order_is_tree n plan some few is in omega (arith, tree.scans, tree.joins)

  pub level_there : (k : ℕ) → 1 ≤ k → k ≤ n → level_node n plan.order k < node_count (tree_of_order plan)
  level_there k first within = elim (cases_eq k 1) [
    | inl one ↦ subst (λ (m : ℕ). level_node n plan.order m < node_count (tree_of_order plan)) (sym one) (omega (arith, first_there n plan is some, many, some))
    | inr later ↦ omega (arith, level_later n plan.order k (omega (arith, first, later)), many, first, within)
  ]

  pub has_levels : (nodes : List Node) → length nodes ≡ node_count (tree_of_order plan)
      → ((node : ℕ) → node < node_count (tree_of_order plan) → (node_at nodes node).entries ≡ entries_at (tree_of_order plan) node) → HasLevels n plan.order nodes
  has_levels nodes count entries = record {
    there = λ k first within. omega (arith, level_there k first within, count);
    entries = λ k first within. entries (level_node n plan.order k) (level_there k first within) ∙ level_entries n plan is k first within;
  }

-- ---- the order T, R, S

abbrev T : Tables
T = tables_of triangle_tables

three_entries : IsOrder 3 (2 ∷ 0 ∷ 1 ∷ [])
unfolding IsDistinct
three_entries = record { entries = (omega arith, (omega arith, (omega arith, tt))); once = ((refl, (refl, tt)), ((refl, tt), (tt, tt))); all = refl }

three_rows : (entry : ℕ) → entry < 3 → row_counts T entry ≡ 3
three_rows zero low = refl
three_rows (suc zero) low = refl
three_rows (suc (suc zero)) low = refl
three_rows (suc (suc (suc entry))) low = absurd (omega arith)

fewer : {X : Type 0} (p : X → Bool) (xs : List X) → length (filter p xs) ≤ length xs
fewer p xs = omega (arith, length-filter p xs, count_by-le-length p xs)

few_scanned : (entry : ℕ) → entry < 3 → listed_row_count (scans_of triangle T) entry ≤ 3
few_scanned entry low =
    omega (
      arith,
      ap (λ (s : List ℕ). length s) (scans_of_at triangle T entry low),
      fewer (passes_own (conjuncts_of triangle T) entry) (range_with_len 0 (row_counts T entry)),
      length-range_with_len 0 (row_counts T entry),
      three_rows entry low,
    )

-- a level has at most as many rows as there are choices for its entries
few_in_level : (k most : ℕ) → length (choices_of (row_counts T) (take k t_r_s.order)) ≡ most → length (list_levels triangle T (scans_of triangle T) t_r_s.order k) ≤ most
few_in_level k most all =
    let entries : List ℕ = take k t_r_s.order in
    omega (
      arith,
      ap (λ (s : List (List ℕ)). length s) (levels_of_scans triangle T t_r_s.order k three_entries.entries three_entries.once),
      fewer (λ (choice : List ℕ). all_hold (conjuncts_of triangle T) entries (row_in entries choice)) (choices_of (row_counts T) entries),
      all,
    )

few_in_levels : (k : ℕ) → k < 3 → length (list_levels triangle T (scans_of triangle T) t_r_s.order (k + 1)) ≤ get_or t_r_s.levels k 0
few_in_levels zero low = few_in_level 1 3 refl
few_in_levels (suc zero) low = few_in_level 2 9 refl
few_in_levels (suc (suc zero)) low = few_in_level 3 27 refl
few_in_levels (suc (suc (suc k))) low = absurd (omega arith)

three_scanned : (entry : ℕ) → entry < 3 → get_or t_r_s.scans entry 0 ≡ 3
three_scanned zero low = refl
three_scanned (suc zero) low = refl
three_scanned (suc (suc zero)) low = refl
three_scanned (suc (suc (suc entry))) low = absurd (omega arith)

small_levels : (k : ℕ) → k < 3 → get_or t_r_s.levels k 0 ≤ most_budget
small_levels zero low = omega arith
small_levels (suc zero) low = omega arith
small_levels (suc (suc zero)) low = omega arith
small_levels (suc (suc (suc k))) low = absurd (omega arith)

pub planned : IsPlanOf triangle (tables_of triangle_tables) (scans_of triangle (tables_of triangle_tables)) t_r_s
planned = record {
  for_each_entry = record { order = three_entries; scans = refl; levels = refl };
  scans = λ entry low. omega (arith, few_scanned entry low, three_scanned entry low);
  levels = few_in_levels;
  within_tables = λ entry low. omega (arith, three_scanned entry low, three_rows entry low);
  within_budget = small_levels;
}

-- ---- values that equal the triangle, its database and the order

module _ (query : Query) (db : Database) (plan : Plan) (same : query ≡ triangle) (like : db ≡ triangle_tables) (is : plan ≡ t_r_s) where
  pub fits_still : IsDatabaseOf query db
  fits_still = subst (λ (q : Query). IsDatabaseOf q db) (sym same) (subst (λ (d : Database). IsDatabaseOf triangle d) (sym like) triangle_fits)

  pub planned_still : IsPlanOf query (tables_of db) (scans_of query (tables_of db)) plan
  planned_still =
      subst (λ (p : Plan). IsPlanOf query (tables_of db) (scans_of query (tables_of db)) p) (sym is)
      (subst (λ (q : Query). IsPlanOf q (tables_of db) (scans_of q (tables_of db)) t_r_s) (sym same)
      (subst (λ (d : Database). IsPlanOf triangle (tables_of d) (scans_of triangle (tables_of d)) t_r_s) (sym like) planned))

-- ---- the entries of a level of the order T, R, S

pub low_entries : (k : ℕ) → 1 ≤ k → k ≤ 3 → AllByRecursion (λ entry. entry < 3) (take k t_r_s.order)
low_entries zero first within = absurd (omega arith)
low_entries (suc zero) first within = (omega arith, tt)
low_entries (suc (suc zero)) first within = (omega arith, (omega arith, tt))
low_entries (suc (suc (suc zero))) first within = (omega arith, (omega arith, (omega arith, tt)))
low_entries (suc (suc (suc (suc k)))) first within = absurd (omega arith)
