-- The plans of the examples are plans of their queries.
use Rattle.std.proofs.Common.{◌≡◌, ℕ, zero, suc, ◌<◌, ◌≤◌, eqb, List, [], ◌∷◌, length, map, get_or, ap, refl, arith}
use Rattle.std.specs.List.{count_by}
use Rattle.std.proofs.lemmas.List.{length-map}
use Rattle.sql_meaning.specs.Examples.{triangle, triangle_tables}
use Rattle.sql_meaning.specs.Tables.{tables_of}
use Rattle.join_steps.specs.Lists.{scan_of, scans_of}
use Rattle.plans.specs.declared.bushy.BushyPlan.{BushyPlan}
use Rattle.plans.specs.TreePlans.{joined_nodes, IsTreePlan}
use Rattle.tree_rows.specs.Rooms.{bound_at, BoundsFitBuffers}
use Rattle.tree_rows.proofs.RoomFacts.{within_fits}
use Rattle.bushy_join_tests.specs.SmallQueries.{equal, one_is_two, r_joins_s, six_and_five, three_rows_two_entries, Comparison}
use Rattle.bushy_join_tests.proofs.Worked.{level_is, scan_is}
use Rattle.bushy_join.specs.Trees.{rows_over_tables, IsTreePlanOf}
use Rattle.bushy_join.proofs.Scans.{plan_over_whole_scans}
use Rattle.bushy_join_tests.specs.Examples.{one_entry_plan, query_with_false_condition, pair_plan, three_rows, triangle_plan, two_entries_plan}

-- ---- if the rows equal a given list, and the list is within a bound, the rows are within the bound

abbrev pub triangle_equalities : List Comparison
triangle_equalities = equal 0 0 1 0 ∷ equal 1 1 2 0 ∷ equal 2 1 0 1 ∷ []

scan_fits : (rows given : List ℕ) (bound : ℕ) → rows ≡ given → length given ≤ bound → length rows ≤ bound
scan_fits rows given bound same small = omega (arith, ap (λ (s : List ℕ). length s) same, small)

leaf_fits : (rows given : List ℕ) (bound : ℕ) → rows ≡ given → length given ≤ bound → length (map (λ row. row ∷ []) rows) ≤ bound
leaf_fits rows given bound same small = omega (arith, length-map rows (λ row. row ∷ []), scan_fits rows given bound same small)

level_fits : (rows given : List (List ℕ)) (bound : ℕ) → rows ≡ given → length given ≤ bound → length rows ≤ bound
level_fits rows given bound same small = omega (arith, ap (λ (s : List (List ℕ)). length s) same, small)

-- each node with a number below `named` is named by exactly one join. `named` is the number of the root
abbrev NamedOnce : ℕ → BushyPlan → Type 0
NamedOnce named plan = (node : ℕ) → node < named → count_by (λ other. eqb other node) (joined_nodes plan.joins) ≡ 1

each_of_two_is_named_once : (node : ℕ) → node < 2 → count_by (λ other. eqb other node) (0 ∷ 1 ∷ []) ≡ 1
each_of_two_is_named_once zero low = refl
each_of_two_is_named_once (suc zero) low = refl
each_of_two_is_named_once (suc (suc node)) low = absurd (omega arith)

-- ---- two tables

pair_tree : IsTreePlan 2 pair_plan
pair_tree = record {
  few = omega arith;
  scans = refl;
  joins = refl;
  behind = (omega arith, omega arith, tt);
  once = each_of_two_is_named_once;
}

pair_bounds_fit_buffers : BoundsFitBuffers pair_plan
pair_bounds_fit_buffers = within_fits pair_plan (record { scans = (omega arith, (omega arith, tt)); joins = (omega arith, tt) })

pair_scan : (entry : ℕ) → entry < 2 → length (scan_of r_joins_s six_and_five entry) ≤ get_or pair_plan.scans entry 0
pair_scan zero low =
    scan_fits (scan_of r_joins_s six_and_five 0) (0 ∷ 1 ∷ 2 ∷ 3 ∷ 4 ∷ 5 ∷ []) 6
    (scan_is (equal 0 0 1 0 ∷ []) six_and_five 0) (omega arith)
pair_scan (suc zero) low =
    scan_fits (scan_of r_joins_s six_and_five 1) (0 ∷ 1 ∷ 2 ∷ 3 ∷ 4 ∷ []) 5
    (scan_is (equal 0 0 1 0 ∷ []) six_and_five 1) (omega arith)
pair_scan (suc (suc entry)) low = absurd (omega arith)

pair_node : (node : ℕ) → node < 3 → length (rows_over_tables r_joins_s (tables_of six_and_five) pair_plan node) ≤ bound_at pair_plan node
pair_node zero low =
    leaf_fits (scan_of r_joins_s six_and_five 0) (0 ∷ 1 ∷ 2 ∷ 3 ∷ 4 ∷ 5 ∷ []) 6
    (scan_is (equal 0 0 1 0 ∷ []) six_and_five 0) (omega arith)
pair_node (suc zero) low =
    leaf_fits (scan_of r_joins_s six_and_five 1) (0 ∷ 1 ∷ 2 ∷ 3 ∷ 4 ∷ []) 5
    (scan_is (equal 0 0 1 0 ∷ []) six_and_five 1) (omega arith)
pair_node (suc (suc zero)) low =
    level_fits (rows_over_tables r_joins_s (tables_of six_and_five) pair_plan 2)
    ((0 ∷ 0 ∷ []) ∷ (0 ∷ 1 ∷ []) ∷ (1 ∷ 0 ∷ []) ∷ (1 ∷ 1 ∷ []) ∷ (2 ∷ 0 ∷ []) ∷ (2 ∷ 1 ∷ []) ∷ []) 12
    (level_is (equal 0 0 1 0 ∷ []) six_and_five (0 ∷ 1 ∷ []) 2) (omega arith)
pair_node (suc (suc (suc node))) low = absurd (omega arith)

pub pair_plan_is_of_query : IsTreePlanOf r_joins_s (tables_of six_and_five) (scans_of r_joins_s (tables_of six_and_five)) pair_plan
pair_plan_is_of_query = plan_over_whole_scans r_joins_s (tables_of six_and_five) pair_plan pair_tree pair_bounds_fit_buffers pair_scan pair_node

-- ---- the triangle

triangle_tree : IsTreePlan 3 triangle_plan
triangle_tree = record {
  few = omega arith;
  scans = refl;
  joins = refl;
  behind = (omega arith, omega arith, (omega arith, omega arith, tt));
  once = four_named;
}
  where
    four_named : NamedOnce 4 triangle_plan
    four_named zero low = refl
    four_named (suc zero) low = refl
    four_named (suc (suc zero)) low = refl
    four_named (suc (suc (suc zero))) low = refl
    four_named (suc (suc (suc (suc node)))) low = absurd (omega arith)

abbrev whole_scan : ℕ → Type 0
whole_scan entry = scan_of triangle triangle_tables entry ≡ 0 ∷ 1 ∷ 2 ∷ []

triangle_scans : (entry : ℕ) → entry < 3 → whole_scan entry
triangle_scans zero low = scan_is triangle_equalities triangle_tables 0
triangle_scans (suc zero) low = scan_is triangle_equalities triangle_tables 1
triangle_scans (suc (suc zero)) low = scan_is triangle_equalities triangle_tables 2
triangle_scans (suc (suc (suc entry))) low = absurd (omega arith)

triangle_bounds_fit_buffers : BoundsFitBuffers triangle_plan
triangle_bounds_fit_buffers = within_fits triangle_plan (record { scans = (omega arith, (omega arith, (omega arith, tt))); joins = (omega arith, (omega arith, tt)) })

triangle_scan : (entry : ℕ) → entry < 3 → length (scan_of triangle triangle_tables entry) ≤ get_or triangle_plan.scans entry 0
triangle_scan zero low = scan_fits (scan_of triangle triangle_tables 0) (0 ∷ 1 ∷ 2 ∷ []) 3 (triangle_scans 0 low) (omega arith)
triangle_scan (suc zero) low = scan_fits (scan_of triangle triangle_tables 1) (0 ∷ 1 ∷ 2 ∷ []) 3 (triangle_scans 1 low) (omega arith)
triangle_scan (suc (suc zero)) low = scan_fits (scan_of triangle triangle_tables 2) (0 ∷ 1 ∷ 2 ∷ []) 3 (triangle_scans 2 low) (omega arith)
triangle_scan (suc (suc (suc entry))) low = absurd (omega arith)

triangle_node : (node : ℕ) → node < 5 → length (rows_over_tables triangle (tables_of triangle_tables) triangle_plan node) ≤ bound_at triangle_plan node
triangle_node zero low = leaf_fits (scan_of triangle triangle_tables 0) (0 ∷ 1 ∷ 2 ∷ []) 3 (triangle_scans 0 (omega arith)) (omega arith)
triangle_node (suc zero) low =
    leaf_fits (scan_of triangle triangle_tables 1) (0 ∷ 1 ∷ 2 ∷ []) 3
    (triangle_scans 1 (omega arith)) (omega arith)
triangle_node (suc (suc zero)) low =
    leaf_fits (scan_of triangle triangle_tables 2) (0 ∷ 1 ∷ 2 ∷ []) 3
    (triangle_scans 2 (omega arith)) (omega arith)
triangle_node (suc (suc (suc zero))) low =
    level_fits (rows_over_tables triangle (tables_of triangle_tables) triangle_plan 3)
    ((0 ∷ 0 ∷ []) ∷ (0 ∷ 2 ∷ []) ∷ (1 ∷ 1 ∷ []) ∷ (2 ∷ 0 ∷ []) ∷ (2 ∷ 2 ∷ []) ∷ []) 5
    (level_is triangle_equalities triangle_tables (1 ∷ 2 ∷ []) 2) (omega arith)
triangle_node (suc (suc (suc (suc zero)))) low =
    level_fits (rows_over_tables triangle (tables_of triangle_tables) triangle_plan 4)
    ((0 ∷ 0 ∷ 0 ∷ []) ∷ (0 ∷ 1 ∷ 1 ∷ []) ∷ (1 ∷ 0 ∷ 2 ∷ []) ∷ (2 ∷ 2 ∷ 0 ∷ []) ∷ []) 9
    (level_is triangle_equalities triangle_tables (0 ∷ 1 ∷ 2 ∷ []) 3) (omega arith)
triangle_node (suc (suc (suc (suc (suc node))))) low = absurd (omega arith)

pub triangle_plan_is_of_query : IsTreePlanOf triangle (tables_of triangle_tables) (scans_of triangle (tables_of triangle_tables)) triangle_plan
triangle_plan_is_of_query = plan_over_whole_scans triangle (tables_of triangle_tables) triangle_plan triangle_tree triangle_bounds_fit_buffers triangle_scan triangle_node

-- ---- the constant condition 1 = 2

one_entry_tree : IsTreePlan 1 one_entry_plan
one_entry_tree = record {
  few = omega arith;
  scans = refl;
  joins = refl;
  behind = tt;
  once = λ node low. absurd (omega arith);
}

one_entry_bounds_fit_buffers : BoundsFitBuffers one_entry_plan
one_entry_bounds_fit_buffers = within_fits one_entry_plan (record { scans = (omega arith, tt); joins = tt })

one_entry_scan : (entry : ℕ) → entry < 1 → length (scan_of (query_with_false_condition (0 ∷ [])) three_rows entry) ≤ get_or one_entry_plan.scans entry 0
one_entry_scan zero low = scan_fits (scan_of (query_with_false_condition (0 ∷ [])) three_rows 0) (0 ∷ 1 ∷ 2 ∷ []) 3 (scan_is (one_is_two ∷ []) three_rows 0) (omega arith)
one_entry_scan (suc entry) low = absurd (omega arith)

one_entry_node : (node : ℕ) → node < 1 → length (rows_over_tables (query_with_false_condition (0 ∷ [])) (tables_of three_rows) one_entry_plan node) ≤ bound_at one_entry_plan node
one_entry_node zero low = level_fits (rows_over_tables (query_with_false_condition (0 ∷ [])) (tables_of three_rows) one_entry_plan 0) [] 3 (level_is (one_is_two ∷ []) three_rows (0 ∷ []) 1) (omega arith)
one_entry_node (suc node) low = absurd (omega arith)

pub one_entry_plan_is_of_query : IsTreePlanOf (query_with_false_condition (0 ∷ [])) (tables_of three_rows) (scans_of (query_with_false_condition (0 ∷ [])) (tables_of three_rows)) one_entry_plan
one_entry_plan_is_of_query = plan_over_whole_scans (query_with_false_condition (0 ∷ [])) (tables_of three_rows) one_entry_plan one_entry_tree one_entry_bounds_fit_buffers one_entry_scan one_entry_node

two_entries_tree : IsTreePlan 2 two_entries_plan
two_entries_tree = record {
  few = omega arith;
  scans = refl;
  joins = refl;
  behind = (omega arith, omega arith, tt);
  once = each_of_two_is_named_once;
}

two_entries_bounds_fit_buffers : BoundsFitBuffers two_entries_plan
two_entries_bounds_fit_buffers = within_fits two_entries_plan (record { scans = (omega arith, (omega arith, tt)); joins = (omega arith, tt) })

two_entries_scans : (entry : ℕ) → entry < 2 → scan_of (query_with_false_condition (0 ∷ 0 ∷ [])) three_rows_two_entries entry ≡ 0 ∷ 1 ∷ 2 ∷ []
two_entries_scans zero low = scan_is (one_is_two ∷ []) three_rows_two_entries 0
two_entries_scans (suc zero) low = scan_is (one_is_two ∷ []) three_rows_two_entries 1
two_entries_scans (suc (suc entry)) low = absurd (omega arith)

two_entries_scan : (entry : ℕ) → entry < 2 → length (scan_of (query_with_false_condition (0 ∷ 0 ∷ [])) three_rows_two_entries entry) ≤ get_or two_entries_plan.scans entry 0
two_entries_scan zero low = scan_fits (scan_of (query_with_false_condition (0 ∷ 0 ∷ [])) three_rows_two_entries 0) (0 ∷ 1 ∷ 2 ∷ []) 3 (two_entries_scans 0 low) (omega arith)
two_entries_scan (suc zero) low = scan_fits (scan_of (query_with_false_condition (0 ∷ 0 ∷ [])) three_rows_two_entries 1) (0 ∷ 1 ∷ 2 ∷ []) 3 (two_entries_scans 1 low) (omega arith)
two_entries_scan (suc (suc entry)) low = absurd (omega arith)

two_entries_node : (node : ℕ) → node < 3 → length (rows_over_tables (query_with_false_condition (0 ∷ 0 ∷ [])) (tables_of three_rows_two_entries) two_entries_plan node) ≤ bound_at two_entries_plan node
two_entries_node zero low = leaf_fits (scan_of (query_with_false_condition (0 ∷ 0 ∷ [])) three_rows_two_entries 0) (0 ∷ 1 ∷ 2 ∷ []) 3 (two_entries_scans 0 (omega arith)) (omega arith)
two_entries_node (suc zero) low =
    leaf_fits (scan_of (query_with_false_condition (0 ∷ 0 ∷ [])) three_rows_two_entries 1) (0 ∷ 1 ∷ 2 ∷ []) 3
    (two_entries_scans 1 (omega arith)) (omega arith)
two_entries_node (suc (suc zero)) low =
    level_fits (rows_over_tables (query_with_false_condition (0 ∷ 0 ∷ [])) (tables_of three_rows_two_entries) two_entries_plan 2) [] 9
    (level_is (one_is_two ∷ []) three_rows_two_entries (0 ∷ 1 ∷ []) 2) (omega arith)
two_entries_node (suc (suc (suc node))) low = absurd (omega arith)

pub two_entries_plan_is_of_query : IsTreePlanOf (query_with_false_condition (0 ∷ 0 ∷ [])) (tables_of three_rows_two_entries) (scans_of (query_with_false_condition (0 ∷ 0 ∷ [])) (tables_of three_rows_two_entries)) two_entries_plan
two_entries_plan_is_of_query = plan_over_whole_scans (query_with_false_condition (0 ∷ 0 ∷ [])) (tables_of three_rows_two_entries) two_entries_plan two_entries_tree two_entries_bounds_fit_buffers two_entries_scan two_entries_node
