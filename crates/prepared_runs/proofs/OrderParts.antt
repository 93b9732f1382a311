-- Each level of an order has the rows of its node in the order's tree. Only level 1 differs: it has no rows if a conjunct such as 1 = 2 fails.
use Rattle.std.proofs.Common.{◌≡◌, inl, inr, ℕ, ◌+◌, ◌*◌, ◌<◌, ◌≤◌, ◌&&◌, Bool, not, cond, List, [], length, map, get_or, ap, sym, ◌∙◌, arith}
use Rattle.std.specs.List.{range_with_len}
use Rattle.std.proofs.lemmas.Bool.{cases_eq, ne_eqb}
use Rattle.std.proofs.lemmas.List.{ext_get_or}
use Rattle.std.proofs.lemmas.List.FromFn.{get_or-map-range_with_len, length-map-range_with_len}
use Rattle.csv_tables.specs.declared.types.Database.{Database}
use Rattle.plans.specs.LeftDeep.{IsPlan}
use Rattle.plans.specs.declared.left_deep.Plan.{Plan}
use Rattle.query_types.specs.declared.types.Query.{Query}
use Rattle.sql_meaning.specs.Databases.{IsDatabaseOf}
use Rattle.sql_meaning.specs.Tables.{tables_of}
use Rattle.join_steps.specs.Lists.{list_levels, AreOfScans}
use Rattle.plans.specs.Orders.{level_node, tree_of_order}
use Rattle.plans.proofs.Building.{level_later}
use Rattle.plans.proofs.OrderTrees.{order_is_tree}
use Rattle.tree_rows.specs.Nodes.{Node, node_at}
use Rattle.tree_rows.specs.Trees.{node_count}
use Rattle.tree_rows.proofs.OrderNodes.{first_there}
use Rattle.bushy_join.specs.Trees.{node_rows}
use Rattle.bushy_join.proofs.FirstLevel.{first_rows}
use Rattle.bushy_join.proofs.OrderRows.{level_rows}
use Rattle.joined_texts.specs.Printed.{constants_of, level_counts, rows_of_level}

module _ (query : Query) (db : Database) (lists : List (List ℕ)) (plan : Plan) (nodes : List Node) (database : IsDatabaseOf query db) (is : IsPlan (length query.from) plan) (family : AreOfScans query (tables_of db) lists)
    (choices : (node : ℕ) → node < node_count (tree_of_order plan) → (node_at nodes node).rows ≡ node_rows query (tables_of db) lists (tree_of_order plan) node) where
  abbrev n : ℕ
  n = length query.from

  many : node_count (tree_of_order plan) + 1 ≡ 2 * n
  many = let tree = order_is_tree n plan database.some database.few is in omega (arith, tree.scans, tree.joins)

  first_part : rows_of_level (constants_of query (tables_of db)) plan.order nodes 1 ≡ list_levels query (tables_of db) lists plan.order 1
  first_part =
      ap (λ (s : List (List ℕ)). cond (not (constants_of query (tables_of db))) [] s) (choices (get_or plan.order 0 0) (omega (arith, many, first_there n plan is database.some)))
      ∙ sym (first_rows query db lists plan database.some is family)

  later_part : (k : ℕ) → 1 ≤ k → k < n → rows_of_level (constants_of query (tables_of db)) plan.order nodes (k + 1) ≡ list_levels query (tables_of db) lists plan.order (k + 1)
  later_part k some low =
      let there : level_node n plan.order (k + 1) < node_count (tree_of_order plan) = omega (arith, level_later n plan.order (k + 1) (omega (arith, some)), many, low, some) in
      ap (λ (b : Bool). cond (b && not (constants_of query (tables_of db))) [] (node_at nodes (level_node (length plan.order) plan.order (k + 1))).rows) (ne_eqb (k + 1) 1 (λ same. absurd (omega (arith, same, some))))
      ∙ ap (λ (m : ℕ). (node_at nodes (level_node m plan.order (k + 1))).rows) is.order.all
      ∙ choices (level_node n plan.order (k + 1)) there
      ∙ level_rows query (tables_of db) lists plan database.some database.few is (k + 1) (omega (arith, some)) (omega (arith, low))

  pub each_part : (k : ℕ) → k < length plan.order → rows_of_level (constants_of query (tables_of db)) plan.order nodes (k + 1) ≡ list_levels query (tables_of db) lists plan.order (k + 1)
  each_part k low = elim (cases_eq k 0) [
    | inl first ↦ ap (λ (m : ℕ). rows_of_level (constants_of query (tables_of db)) plan.order nodes (m + 1)) first ∙ first_part
        ∙ sym (ap (λ (m : ℕ). list_levels query (tables_of db) lists plan.order (m + 1)) first)
    | inr later ↦ later_part k (omega (arith, later)) (omega (arith, low, is.order.all))
  ]

  abbrev counted : ℕ → ℕ
  counted k = length (rows_of_level (constants_of query (tables_of db)) plan.order nodes (k + 1))

  abbrev size : ℕ → ℕ
  size k = length (list_levels query (tables_of db) lists plan.order (k + 1))

  pub counts_of_levels : level_counts (constants_of query (tables_of db)) plan.order nodes ≡ map (λ k. length (list_levels query (tables_of db) lists plan.order (k + 1))) (range_with_len 0 (length plan.order))
  counts_of_levels =
      let many : ℕ = length plan.order in
      let lengths : length (level_counts (constants_of query (tables_of db)) plan.order nodes) ≡ many = length-map-range_with_len counted 0 many in
      ext_get_or 0 (level_counts (constants_of query (tables_of db)) plan.order nodes) (map size (range_with_len 0 many))
      (lengths ∙ sym (length-map-range_with_len size 0 many))
      (λ k low.
      let within : k < many = omega (arith, low, lengths) in
      get_or-map-range_with_len counted 0 many k k 0 within (omega arith)
      ∙ ap (λ (s : List (List ℕ)). length s) (each_part k within)
      ∙ sym (get_or-map-range_with_len size 0 many k k 0 within (omega arith)))
